use Rattle.std.proofs.Common.{take}
use Rattle.dg_asks.specs.Told.{AreUnrefused}
use Rattle.dg_closing.proofs.unrefused.are_unrefused.Given as goal

abbrev pub invariant-loop-event : goal.invariant-loop-event
invariant-loop-event g l = AreUnrefused (take l.event-index l.history)
