use Rattle.std.proofs.Common.{◌≡◌, ◌≤◌, ◌++◌}
use Rattle.std.specs.Option.{option_map}
use Rattle.std.specs.Vec.Iter.{into_iter_items}
use Rattle.dg_deeds.specs.Deeds.{AreLines, text_after, tree_after}
use Rattle.dg_files.specs.Outcome.{StaysSound}
use Rattle.dg_kinds_coll.specs.Defold.{defold_tables}
use Rattle.dg_tool.specs.Seen.{deeds_in}
use Rattle.dg_tool.proofs.doing.do_pieces.Given as goal

abbrev pub invariant-loop-piece : goal.invariant-loop-piece
invariant-loop-piece g l = record {
  tree : g.F.Files.tree l.files ≡ option_map (tree_after (deeds_in defold_tables l.names l.yielded)) (g.F.Files.tree l.initial.files);
  text : g.S.Sink.bytes l.out ≡ option_map (text_after (deeds_in defold_tables l.names l.yielded)) (g.S.Sink.bytes l.initial.out);
  rest : l.yielded ++ into_iter_items l.piece-iterator ≡ l.fn.pieces.items;
  untouched : AreLines (deeds_in defold_tables l.names l.yielded) → l.files ≡ l.initial.files;
  files_never_fall : g.F.Files.faults l.initial.files ≤ g.F.Files.faults l.files;
  out_never_falls : g.S.Sink.faults l.initial.out ≤ g.S.Sink.faults l.out;
  files_sound : StaysSound g.F.Files.is_sound g.F.Files.faults l.initial.files l.files;
  out_sound : StaysSound g.S.Sink.is_sound g.S.Sink.faults l.initial.out l.out;
}
