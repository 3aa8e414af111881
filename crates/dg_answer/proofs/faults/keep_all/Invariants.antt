use Rattle.std.proofs.Common.{◌≡◌, drop}
use Rattle.dg_answer.specs.Kept.{keep_all}
use Rattle.dg_answer.proofs.faults.keep_all.Given as goal

abbrev pub invariant-loop-fault : goal.invariant-loop-fault
invariant-loop-fault l = keep_all l.kept.items (drop l.fault-index l.faults) ≡ keep_all l.initial.kept.items l.faults
