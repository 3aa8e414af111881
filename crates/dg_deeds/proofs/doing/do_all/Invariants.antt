use Rattle.std.proofs.Common.{◌≡◌, ◌≤◌, take}
use Rattle.std.specs.Option.{option_map}
use Rattle.dg_files.specs.Outcome.{StaysSound}
use Rattle.dg_deeds.specs.Deeds.{AreLines, text_after, tree_after}
use Rattle.dg_deeds.proofs.doing.do_all.Given as goal

abbrev pub invariant-loop-deed : goal.invariant-loop-deed
invariant-loop-deed g l = record {
  tree : g.F.Files.tree l.files ≡ option_map (tree_after (take l.deed-index l.deeds)) (g.F.Files.tree l.initial.files);
  text : g.S.Sink.bytes l.out ≡ option_map (text_after (take l.deed-index l.deeds)) (g.S.Sink.bytes l.initial.out);
  untouched : AreLines l.deeds → l.files ≡ l.initial.files;
  files_never_fall : g.F.Files.faults l.initial.files ≤ g.F.Files.faults l.files;
  out_never_falls : g.S.Sink.faults l.initial.out ≤ g.S.Sink.faults l.out;
  files_sound : StaysSound g.F.Files.is_sound g.F.Files.faults l.initial.files l.files;
  out_sound : StaysSound g.S.Sink.is_sound g.S.Sink.faults l.initial.out l.out;
}
