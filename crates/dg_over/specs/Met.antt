-- Nodes in the order in which they were first met.
use Rattle.std.specs.Prelude.{List, [], ◌∷◌, ◌++◌, cond}
use Rattle.dg_base.specs.declared.ids.NodeId.{NodeId}
use Rattle.dg_base.specs.Order.{is_node_among}

-- with a node more, the last one, if it wasn't met before
abbrev pub meet : List NodeId → NodeId → List NodeId
meet met n = cond (is_node_among met n) met (met ++ n ∷ [])
