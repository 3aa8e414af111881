use Rattle.std.proofs.Common.{◌≡◌, take}
use Rattle.dg_base.specs.Order.{ordered}
use Rattle.dg_reads.proofs.sets.EndSet.of.Given as goal

abbrev pub invariant-loop-end : goal.invariant-loop-end
invariant-loop-end l = l.all ≡ ordered (take l.end-index l.ends)
