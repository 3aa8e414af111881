use Rattle.std.proofs.Common.{◌≡◌, take}
use Rattle.dg_base.specs.Order.{ordered_nodes}
use Rattle.dg_reads.proofs.sets.NodeSet.of.Given as goal

abbrev pub invariant-loop-node : goal.invariant-loop-node
invariant-loop-node l = l.set.keys ≡ ordered_nodes (take l.node-index l.nodes)
