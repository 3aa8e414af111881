use Rattle.std.proofs.Common.{◌≤◌, ◌-◌, length, take}
use Rattle.dg_files.specs.Outcome.{StaysSound}
use Rattle.dg_deeds.specs.Printed.{GotAll}
use Rattle.dg_deeds.proofs.printing.put_all.Given as goal

abbrev pub invariant-loop-at : goal.invariant-loop-at
invariant-loop-at g l = record {
  within : l.at ≤ length l.piece;
  got : GotAll (g.S.Sink.bytes l.initial.out) (g.S.Sink.bytes l.out) (take l.at l.piece);
  never_falls : g.S.Sink.faults l.initial.out ≤ g.S.Sink.faults l.out;
  sound : StaysSound g.S.Sink.is_sound g.S.Sink.faults l.initial.out l.out;
}

abbrev pub decreases-loop-at : goal.decreases-loop-at
decreases-loop-at g l = length l.piece - l.at
