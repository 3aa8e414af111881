-- Nodes in id order, as those of a graph.
use Rattle.std.specs.Prelude.{List, [], ◌∷◌, cond, filter, map, nat_lt, not}
use Rattle.std.specs.Coded.{Coded, coded_list}
use Rattle.dg_base.specs.declared.ids.NodeId.{NodeId}
use Rattle.dg_base.specs.declared.ids.Label.{Label}
use Rattle.dg_base.specs.declared.datum.Datum.{Datum}
use Rattle.dg_base.specs.declared.datum.FieldOf.{FieldOf}
use Rattle.dg_base.specs.declared.graph.Node.{Node}
use Rattle.dg_base.specs.contracts.graph.Node as node_type
use Rattle.dg_base.specs.Same.{same_node}
use Rattle.dg_base.specs.Graph.{Graph}
use Rattle.dg_basis.specs.declared.node_rec.NodeRec.{NodeRec}

-- a graph of nodes alone, as the definitions of a graph's nodes ask
abbrev pub nodes_alone : List Node → Graph
nodes_alone ns = record { nodes = ns; arcs = [] }

-- an own value as a field
abbrev pub field_of : Label × Datum → FieldOf
field_of e = record { label = e.0; value = e.1 }

-- the node with an id of which this is known
abbrev pub node_of : NodeId × NodeRec → Node
node_of e = record { id = e.0; origin = e.1.origin; defective = e.1.defective; own = map field_of e.1.own }

-- a node put into its place in id order, where the one with its id goes
abbrev pub put_node : Node → List Node → List Node
put_node x [] = x ∷ []
put_node x (y ∷ ys) = cond (same_node y.id x.id) (x ∷ ys) (cond (nat_lt x.id.0 y.id.0) (x ∷ y ∷ ys) (y ∷ put_node x ys))

abbrev pub without_node : NodeId → List Node → List Node
without_node n xs = filter (λ x. not (same_node x.id n)) xs

abbrev pub nodes_code : Coded (List Node)
nodes_code = coded_list node_type.the_row.coded
