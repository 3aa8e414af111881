-- What a node owns through its cascading inputs, its cascade tree, and what goes with it when it is
-- deleted.
use Rattle.std.specs.Prelude.{ℕ, suc, List, [], ◌∷◌, ◌++◌, Bool, false, Option, Some, None, map, filter, filter_map, flat_map, length}
use Rattle.dg_base.specs.declared.ids.NodeId.{NodeId}
use Rattle.dg_base.specs.declared.ids.Label.{Label}
use Rattle.dg_base.specs.declared.ids.Kind.{Kind}
use Rattle.dg_base.specs.declared.ids.Endpoint.{Endpoint}
use Rattle.dg_base.specs.declared.graph.Node.{Node}
use Rattle.dg_base.specs.declared.graph.Origin.{Origin}
use Rattle.dg_base.specs.declared.graph.Origin.TheVariants as origin
use Rattle.dg_base.specs.Same.{same_node}
use Rattle.dg_base.specs.Role.{cascades}
use Rattle.dg_base.specs.Tables.{Tables}
use Rattle.dg_base.specs.Graph.{Graph, node_at, override_in, explicit_sources}
use Rattle.dg_base.specs.Chain.{kind_of}
use Rattle.dg_base.specs.Sources.{sources}
use Rattle.dg_base.specs.Order.{ordered_nodes}
use Rattle.dg_base.specs.Walk.{walk_within}

-- the cascading inputs of a kind, in label order
abbrev pub cascading_inputs : Tables → Option Kind → List Label
cascading_inputs t None = []
cascading_inputs t (Some k) = filter (λ l. cascades (t.role k l)) (t.labels k)

-- the override nodes, in the node's own override, of the sources that it inherits
abbrev pub owned_by_origin : Graph → Label → Origin → List NodeId
owned_by_origin g i (origin.Plain kind) = []
owned_by_origin g i (origin.Over root original) = filter_map (λ s. override_in g root s.node) (sources g original i)

abbrev pub owned_over : Graph → Label → Option Node → List NodeId
owned_over g i None = []
owned_over g i (Some x) = owned_by_origin g i x.origin

abbrev pub nodes_or : List Endpoint → List NodeId → List NodeId
nodes_or [] others = others
nodes_or (s ∷ ss) others = map (λ e. e.node) (s ∷ ss)

-- what a node owns through an input: the nodes of its explicit sources, if there are any
abbrev pub owned_through : Graph → NodeId → Label → List NodeId
owned_through g n i = nodes_or (explicit_sources g n i) (owned_over g i (node_at g n))

abbrev pub owned : Tables → Graph → NodeId → List NodeId
owned t g n = flat_map (owned_through g n) (cascading_inputs t (kind_of g n))

-- a way meets each node of the graph once, and begins at a node that may not be one, so one level more
-- than there are nodes is enough
abbrev pub enough_levels : Graph → ℕ
enough_levels g = suc (length g.nodes)

abbrev pub cascade_tree : Tables → Graph → NodeId → List NodeId
cascade_tree t g n = walk_within same_node (enough_levels g) (owned t g) [] n

-- the override nodes whose original is this node, in id order
abbrev pub is_over : NodeId → Origin → Bool
is_over n (origin.Plain kind) = false
is_over n (origin.Over root original) = same_node original n

abbrev pub overs : Graph → NodeId → List NodeId
overs g n = map (λ x. x.id) (filter (λ x. is_over n x.origin) g.nodes)

-- what a deletion takes: the node, the override nodes of what it takes, and what these own
abbrev pub taken_with : Tables → Graph → NodeId → List NodeId
taken_with t g n = overs g n ++ owned t g n

-- in id order
abbrev pub doomed : Tables → Graph → NodeId → List NodeId
doomed t g n = ordered_nodes (walk_within same_node (enough_levels g) (taken_with t g) [] n)
