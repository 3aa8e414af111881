-- A node looked up by its id.
use Rattle.std.specs.Prelude.{cond, Option, Some, None}
use Rattle.dg_base.specs.declared.ids.NodeId.{NodeId}
use Rattle.dg_base.specs.declared.graph.Node.{Node}
use Rattle.dg_base.specs.Same.{same_node}

-- the node, where it has the id
abbrev pub with_id : NodeId → Option Node → Option Node
with_id n None = None
with_id n (Some x) = cond (same_node x.id n) (Some x) None
