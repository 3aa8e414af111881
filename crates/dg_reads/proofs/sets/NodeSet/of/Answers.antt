use Rattle.std.proofs.Common.{get_or, ap, ◌∙◌}
use Rattle.dg_base.specs.declared.ids.NodeId.{NodeId}
use Rattle.dg_base.specs.Same.{same_node}
use Rattle.dg_base.specs.Order.{is_node_before, put_by}
use Rattle.dg_laws.proofs.Ids.{nodes_compare, nodes_rank}
use Rattle.dg_reads.proofs.PutInOrder.{insert_key-put_by, ordered-next}
use Rattle.dg_reads.proofs.sets.NodeSet.of.Goals as goal

abbrev none : NodeId
none = record { 0 = 0 }

pub loop-node-preserved : goal.loop-node-preserved
loop-node-preserved c =
    c.in_ok-insert.ensures.keys
    ∙ insert_key-put_by nodes_compare c.loop-node.set.keys (get_or c.args.nodes.now c.loop-node.node-index none)
    ∙ ap (put_by same_node is_node_before (get_or c.args.nodes.now c.loop-node.node-index none)) c.loop-node.invariant
    ∙ ordered-next nodes_rank c.args.nodes.now c.loop-node.node-index none c.loop-node-test.true
