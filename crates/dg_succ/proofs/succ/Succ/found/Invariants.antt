use Rattle.std.proofs.Common.{◌+◌, ◌-◌, length}
use Rattle.dg_succ.specs.Walked.{IsWalked}
use Rattle.dg_succ.proofs.succ.Succ.found.Given as goal

abbrev pub invariant-loop-place : goal.invariant-loop-place
invariant-loop-place l = IsWalked l.self l.from l.found.keys l.place

abbrev pub decreases-loop-place : goal.decreases-loop-place
decreases-loop-place l = (length l.from + length l.self) - l.place
