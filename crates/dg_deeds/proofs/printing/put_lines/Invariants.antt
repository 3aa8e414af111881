use Rattle.std.proofs.Common.{◌≤◌, take}
use Rattle.dg_files.specs.Outcome.{StaysSound}
use Rattle.dg_deeds.specs.Printed.{text_of, GotAll}
use Rattle.dg_deeds.proofs.printing.put_lines.Given as goal

abbrev pub invariant-loop-line : goal.invariant-loop-line
invariant-loop-line g l = record {
  got : GotAll (g.S.Sink.bytes l.initial.out) (g.S.Sink.bytes l.out) (text_of (take l.line-index l.lines));
  never_falls : g.S.Sink.faults l.initial.out ≤ g.S.Sink.faults l.out;
  sound : StaysSound g.S.Sink.is_sound g.S.Sink.faults l.initial.out l.out;
}
