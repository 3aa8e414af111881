use Rattle.std.proofs.Common.{◌≡◌, ◌++◌}
use Rattle.dg_reads.proofs.sets.EndSet.to_vec.Given as goal

abbrev pub invariant-loop-end : goal.invariant-loop-end
invariant-loop-end l = l.ends.items ++ l.end-iterator ≡ l.self
