-- A project graph: a list of nodes in the order of their ids, and a list of arcs in the order in
-- which they were connected. A node's own values are a list in label order.
use Rattle.std.specs.Prelude.{List, [], ◌∷◌, Bool, cond, Option, Some, None, map, filter, find, nat_lt, is_some, ◌&&◌}
use Rattle.dg_base.specs.declared.ids.NodeId.{NodeId}
use Rattle.dg_base.specs.declared.ids.Label.{Label}
use Rattle.dg_base.specs.declared.ids.Endpoint.{Endpoint}
use Rattle.dg_base.specs.declared.ids.ArcRec.{ArcRec}
use Rattle.dg_base.specs.declared.datum.Datum.{Datum}
use Rattle.dg_base.specs.declared.datum.FieldOf.{FieldOf}
use Rattle.dg_base.specs.declared.graph.Node.{Node}
use Rattle.dg_base.specs.declared.graph.Origin.{Origin}
use Rattle.dg_base.specs.declared.graph.Origin.TheVariants as origin
use Rattle.dg_base.specs.Same.{same_node, same_label}

pub record Graph : Type 0 where
  pub nodes : List Node
  pub arcs : List ArcRec

abbrev pub empty : Graph
empty = record { nodes = []; arcs = [] }

-- the node with an id
abbrev pub node_at : Graph → NodeId → Option Node
node_at g n = find (λ x. same_node x.id n) g.nodes

abbrev pub has_node : Graph → NodeId → Bool
has_node g n = is_some (node_at g n)

-- the own value at a label
abbrev pub value_in : List FieldOf → Label → Option Datum
value_in [] l = None
value_in (f ∷ fs) l = cond (same_label f.label l) (Some f.value) (value_in fs l)

-- the own values with this one at its label, in label order
abbrev pub put_value : List FieldOf → Label → Datum → List FieldOf
put_value [] l v = record { label = l; value = v } ∷ []
put_value (f ∷ fs) l v =
    cond (same_label f.label l) (record { label = l; value = v } ∷ fs)
    (cond (nat_lt l.0 f.label.0) (record { label = l; value = v } ∷ f ∷ fs) (f ∷ put_value fs l v))

-- the own value of a node, where there is such a node and it has one
abbrev pub own_of : Option Node → Label → Option Datum
own_of None l = None
own_of (Some x) l = value_in x.own l

abbrev pub own_value : Graph → NodeId → Label → Option Datum
own_value g n l = own_of (node_at g n) l

-- the override node of an original in the override that has this root
abbrev pub overrides : NodeId → NodeId → Origin → Bool
overrides root original (origin.Plain kind) = Bool.false
overrides root original (origin.Over r o) = same_node r root && same_node o original

abbrev pub id_of : Option Node → Option NodeId
id_of None = None
id_of (Some x) = Some x.id

abbrev pub override_in : Graph → NodeId → NodeId → Option NodeId
override_in g root original = id_of (find (λ x. overrides root original x.origin) g.nodes)

-- where a node comes from
abbrev pub origin_of : Option Node → Option Origin
origin_of None = None
origin_of (Some x) = Some x.origin

abbrev pub origin_at : Graph → NodeId → Option Origin
origin_at g n = origin_of (node_at g n)

-- the explicit arcs into an input, in the order in which they were connected
abbrev pub arcs_into : Graph → NodeId → Label → List ArcRec
arcs_into g n i = filter (λ a. same_node a.node n && same_label a.input i) g.arcs

abbrev pub explicit_sources : Graph → NodeId → Label → List Endpoint
explicit_sources g n i = map (λ a. a.src) (arcs_into g n i)
