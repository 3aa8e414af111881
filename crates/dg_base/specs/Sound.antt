-- When a graph is sound: every graph that the tool shows is. Each condition is a test.
use Rattle.std.specs.Prelude.{ℕ, ◌≤◌, List, [], ◌∷◌, Bool, true, false, ◌&&◌, ◌||◌, not, Option, Some, None, map, filter, length, nat_le, nat_lt, IsTrue}
use Rattle.std.specs.List.{list_any, list_all}
use Rattle.dg_base.specs.declared.ids.NodeId.{NodeId}
use Rattle.dg_base.specs.declared.ids.Label.{Label}
use Rattle.dg_base.specs.declared.ids.Kind.{Kind}
use Rattle.dg_base.specs.declared.ids.ArcRec.{ArcRec}
use Rattle.dg_base.specs.declared.datum.Datum.{Datum}
use Rattle.dg_base.specs.declared.datum.FieldOf.{FieldOf}
use Rattle.dg_base.specs.declared.graph.Node.{Node}
use Rattle.dg_base.specs.declared.graph.Origin.{Origin}
use Rattle.dg_base.specs.declared.graph.Origin.TheVariants as origin
use Rattle.dg_base.specs.declared.schema.Ty.{Ty}
use Rattle.dg_base.specs.declared.schema.Role.{Role}
use Rattle.dg_base.specs.declared.schema.Role.TheVariants as role
use Rattle.dg_base.specs.Same.{same_node, same_arc, same_ty}
use Rattle.dg_base.specs.Role.{given, taken, is_array, has_type, is_prop_named}
use Rattle.dg_base.specs.Tables.{Tables}
use Rattle.dg_base.specs.Graph.{Graph, node_at, has_node, overrides, arcs_into}
use Rattle.dg_base.specs.Chain.{kind_of}
use Rattle.dg_base.specs.Rule.{is_open_label}
use Rattle.dg_base.specs.Order.{rises}

-- the most node ids, and the most arcs
abbrev pub max_nodes : ℕ
max_nodes = 262144

abbrev pub max_arcs : ℕ
max_arcs = 1048576

-- a root that is still there is an override node that names itself as its root
abbrev pub has_root : NodeId → Origin → Bool
has_root root (origin.Plain kind) = false
has_root root (origin.Over r o) = same_node r root

abbrev pub names_itself : NodeId → Option Node → Bool
names_itself root None = true
names_itself root (Some x) = has_root root x.origin

-- an original is there with a smaller id; a root's id isn't above its override node's
abbrev pub origin_fits : Graph → NodeId → Origin → Bool
origin_fits g n (origin.Plain kind) = true
origin_fits g n (origin.Over root original) =
    (has_node g original && nat_lt original.0 n.0) && (nat_le root.0 n.0 && names_itself root (node_at g root))

-- a root has one override node of an original at most
abbrev pub is_only_override : Graph → Origin → Bool
is_only_override g (origin.Plain kind) = true
is_only_override g (origin.Over root original) = nat_le (length (filter (λ x. overrides root original x.origin) g.nodes)) 1

-- what a value has to be at a label of a kind: of the property's type, or, at an open label of an
-- open kind, an open property of that name
abbrev pub may_be_set : Bool → Label → Datum → Role → Bool
may_be_set opens l v (role.Property ty) = has_type ty v
may_be_set opens l v role.Nothing = opens && (is_open_label l && is_prop_named l v)
may_be_set opens l v _ = false

abbrev pub value_fits : Tables → Option Kind → FieldOf → Bool
value_fits t None f = false
value_fits t (Some k) f = may_be_set (t.is_open k) f.label f.value (t.role k f.label)

abbrev pub node_fits : Tables → Graph → Node → Bool
node_fits t g x =
    ((nat_le 1 x.id.0 && nat_le x.id.0 max_nodes) && (origin_fits g x.id x.origin && is_only_override g x.origin))
    && (rises (map (λ f. f.label.0) x.own) && list_all (value_fits t (kind_of g x.id)) x.own)

-- what a label of a node is to its kind
abbrev pub role_by : Tables → Option Kind → Label → Role
role_by t None l = role.Nothing
role_by t (Some k) l = t.role k l

abbrev pub role_at : Tables → Graph → NodeId → Label → Role
role_at t g n l = role_by t (kind_of g n) l

-- whether both are types, and equal
abbrev pub agree : Option Ty → Option Ty → Bool
agree (Some a) (Some b) = same_ty a b
agree _ _ = false

-- both nodes are there, the types are equal, and a single input has one arc at most
abbrev pub arc_fits : Tables → Graph → ArcRec → Bool
arc_fits t g a =
    ((has_node g a.src.node && has_node g a.node)
    && agree (given (role_at t g a.src.node a.src.label)) (taken (role_at t g a.node a.input)))
    && (is_array (role_at t g a.node a.input) || nat_le (length (arcs_into g a.node a.input)) 1)

-- each arc stands once
abbrev pub arcs_once : List ArcRec → Bool
arcs_once [] = true
arcs_once (a ∷ as_) = not (list_any (same_arc a) as_) && arcs_once as_

pub record IsSound (t : Tables) (g : Graph) : Type 0 where
  pub ids_rise : IsTrue (rises (map (λ x. x.id.0) g.nodes))
  pub nodes_fit : IsTrue (list_all (node_fits t g) g.nodes)
  pub arcs_differ : IsTrue (arcs_once g.arcs)
  pub arcs_fit : IsTrue (list_all (arc_fits t g) g.arcs)
  pub arcs_few : length g.arcs ≤ max_arcs

-- each id is below this one
abbrev pub ids_below : Graph → ℕ → Bool
ids_below g next = list_all (λ x. nat_lt x.id.0 next) g.nodes

-- what reads along chains rest on: ids rise, and originals and the ends of arcs are there. Each sound
-- graph is linked
pub record IsLinked (g : Graph) : Type 0 where
  pub ids_rise : IsTrue (rises (map (λ x. x.id.0) g.nodes))
  pub origins_fit : IsTrue (list_all (λ x. origin_fits g x.id x.origin) g.nodes)
  pub arcs_there : IsTrue (list_all (λ a. has_node g a.src.node && has_node g a.node) g.arcs)
