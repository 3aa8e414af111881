-- Changes of a graph, whatever they lead to.
use Rattle.std.specs.Prelude.{ℕ, List, [], ◌∷◌, ◌++◌, Bool, false, cond, ◌&&◌, not, map, filter}
use Rattle.std.specs.List.{list_any}
use Rattle.dg_base.specs.declared.ids.NodeId.{NodeId}
use Rattle.dg_base.specs.declared.ids.Label.{Label}
use Rattle.dg_base.specs.declared.ids.Kind.{Kind}
use Rattle.dg_base.specs.declared.ids.ArcRec.{ArcRec}
use Rattle.dg_base.specs.declared.datum.Datum.{Datum}
use Rattle.dg_base.specs.declared.graph.Node.{Node}
use Rattle.dg_base.specs.declared.graph.Origin.{Origin}
use Rattle.dg_base.specs.declared.graph.Origin.TheVariants as origin
use Rattle.dg_base.specs.Same.{same_node, same_label, same_arc}
use Rattle.dg_base.specs.Order.{is_node_among}
use Rattle.dg_base.specs.Graph.{Graph, put_value}

-- the graph with one node more, which has no values yet: a plain one of a kind, or an override node
abbrev pub new_node : NodeId → Origin → Node
new_node n from = record { id = n; origin = from; defective = false; own = [] }

abbrev pub plain_node : ℕ → Kind → Node
plain_node n k = new_node (record { 0 = n }) (origin.Plain k)

abbrev pub over_node : ℕ → NodeId → NodeId → Node
over_node n root original = new_node (record { 0 = n }) (origin.Over root original)

abbrev pub with_node : Graph → Node → Graph
with_node g x = record { nodes = g.nodes ++ x ∷ []; arcs = g.arcs }

-- the graph where a node has this own value
abbrev pub valued : NodeId → Label → Datum → Node → Node
valued n l v x = cond (same_node x.id n) (record x { own = put_value x.own l v }) x

abbrev pub with_value : Graph → NodeId → Label → Datum → Graph
with_value g n l v = record { nodes = map (valued n l v) g.nodes; arcs = g.arcs }

-- the graph where a node has no own value at a label
abbrev pub cleared : NodeId → Label → Node → Node
cleared n l x = cond (same_node x.id n) (record x { own = filter (λ f. not (same_label f.label l)) x.own }) x

abbrev pub without_value : Graph → NodeId → Label → Graph
without_value g n l = record { nodes = map (cleared n l) g.nodes; arcs = g.arcs }

-- the graph where a node is marked defective, or isn't
abbrev pub marked : NodeId → Bool → Node → Node
marked n defective x = cond (same_node x.id n) (record x { defective = defective }) x

abbrev pub with_mark : Graph → NodeId → Bool → Graph
with_mark g n defective = record { nodes = map (marked n defective) g.nodes; arcs = g.arcs }

-- whether there is such an arc
abbrev pub is_arc : Graph → ArcRec → Bool
is_arc g a = list_any (same_arc a) g.arcs

-- the graph with one arc more, the last one, and the graph without an arc
abbrev pub with_arc : Graph → ArcRec → Graph
with_arc g a = record { nodes = g.nodes; arcs = g.arcs ++ a ∷ [] }

abbrev pub without_arc : Graph → ArcRec → Graph
without_arc g a = record { nodes = g.nodes; arcs = filter (λ b. not (same_arc a b)) g.arcs }

-- the graph without the arcs into an input
abbrev pub without_arcs_into : Graph → NodeId → Label → Graph
without_arcs_into g n i = record { nodes = g.nodes; arcs = filter (λ a. not (same_node a.node n && same_label a.input i)) g.arcs }

-- the graph without these nodes and without every arc that touches one of them
abbrev pub stays : List NodeId → ArcRec → Bool
stays ns a = not (is_node_among ns a.src.node) && not (is_node_among ns a.node)

abbrev pub without_nodes : Graph → List NodeId → Graph
without_nodes g ns = record { nodes = filter (λ x. not (is_node_among ns x.id)) g.nodes; arcs = filter (stays ns) g.arcs }
