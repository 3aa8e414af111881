use Rattle.std.proofs.Common.{◌≡◌, take}
use Rattle.dg_asks.specs.Told.{late_told}
use Rattle.dg_asks.proofs.told.late_told.Given as goal

abbrev pub invariant-loop-event : goal.invariant-loop-event
invariant-loop-event g l = l.all ≡ late_told (take l.event-index l.history)
