use Rattle.std.specs.Prelude.{length}
use Rattle.dg_room.specs.Made.{AreFresh}
use Rattle.dg_crew.proofs.seats.seated.Given as goal

abbrev pub invariant-loop-passes : goal.invariant-loop-passes
invariant-loop-passes g l = AreFresh (length l.passes.items) l.passes.items

abbrev pub decreases-loop-passes : goal.decreases-loop-passes
decreases-loop-passes g l = length l.passes.items
