-- What each step does to a graph, or why it is refused.
use Rattle.std.specs.Prelude.{◌+◌, [], ◌∷◌, ◌++◌, Bool, false, cond, ◌&&◌, not, Option, Some, None, Result, Ok, Err, length, nat_le, nat_lt, slice_get}
use Rattle.dg_base.specs.declared.ids.NodeId.{NodeId}
use Rattle.dg_base.specs.declared.ids.Label.{Label}
use Rattle.dg_base.specs.declared.ids.Kind.{Kind}
use Rattle.dg_base.specs.declared.ids.ArcRec.{ArcRec}
use Rattle.dg_base.specs.declared.datum.Datum.{Datum}
use Rattle.dg_base.specs.declared.schema.Ty.{Ty}
use Rattle.dg_base.specs.declared.schema.Role.{Role}
use Rattle.dg_base.specs.declared.schema.Role.TheVariants as role
use Rattle.dg_base.specs.declared.step.NodeRef.{NodeRef}
use Rattle.dg_base.specs.declared.step.NodeRef.{Id, New, In', Row_of-NodeRef, end_of-NodeRef, more_of-NodeRef}
use Rattle.dg_base.specs.declared.step.Step.{Step}
use Rattle.dg_base.specs.declared.step.Step.TheVariants as step
use Rattle.dg_base.specs.declared.step.TxCode.{TxCode}
use Rattle.dg_base.specs.declared.step.TxCode.TheVariants as code
use Rattle.dg_base.specs.Same.{same_ty}
use Rattle.dg_base.specs.Role.{given, taken, is_array, cascades, has_type, is_prop_named}
use Rattle.dg_base.specs.Tables.{Tables}
use Rattle.dg_base.specs.Graph.{Graph, has_node, override_in}
use Rattle.dg_base.specs.Chain.{kind_of}
use Rattle.dg_base.specs.Rule.{is_open_label}
use Rattle.dg_base.specs.Owned.{cascade_tree, doomed}
use Rattle.dg_base.specs.Sound.{max_nodes, max_arcs, role_at}
use Rattle.dg_base.specs.Refusal.{and_then}
use Rattle.dg_base.specs.Changes.{plain_node, with_node, with_value, without_value, with_mark, is_arc, with_arc, without_arc, without_arcs_into, without_nodes}
use Rattle.dg_base.specs.Progress.{Progress, changed_to, with_made}
use Rattle.dg_base.specs.Populate.{override_all, populate}

-- the id, where it is a node of the graph
abbrev pub there : Graph → NodeId → Option NodeId
there g n = cond (has_node g n) (Some n) None

abbrev pub there_if : Graph → Option NodeId → Option NodeId
there_if g None = None
there_if g (Some n) = there g n

-- Make: refused where the id would be above the limit
abbrev pub make_step : Progress → Kind → Result Progress TxCode
make_step p k =
    cond (nat_le p.next max_nodes)
    (Ok (record { graph = with_node p.graph (plain_node p.next k); next = p.next + 1; made = p.made ++ record { 0 = p.next } ∷ [] }))
    (Err code.TooManyNodes)

-- Override: the members of the cascade tree get override nodes; the first one is the root
abbrev pub override_step : Tables → Progress → Option NodeId → Result Progress TxCode
override_step t p None = Err code.NoNode
override_step t p (Some n) =
    let root : NodeId = record { 0 = p.next } in
    and_then (override_all root (cascade_tree t p.graph n) p) (λ q. Ok (with_made q root))

-- Set: refused where there is no such node or property, or the value isn't of its type
abbrev pub set_by : Progress → NodeId → Label → Datum → Bool → Role → Result Progress TxCode
set_by p n l v opens (role.Property ty) =
    cond (has_type ty v) (Ok (changed_to p (with_value p.graph n l v))) (Err code.ValueType)
set_by p n l v opens role.Nothing =
    cond (opens && is_open_label l)
    (cond (is_prop_named l v) (Ok (changed_to p (with_value p.graph n l v))) (Err code.ValueType))
    (Err code.NotProperty)
set_by p n l v opens _ = Err code.NotProperty

abbrev pub is_open_kind : Tables → Option Kind → Bool
is_open_kind t None = false
is_open_kind t (Some k) = t.is_open k

abbrev pub set_step : Tables → Progress → Option NodeId → Label → Datum → Result Progress TxCode
set_step t p None l v = Err code.NoNode
set_step t p (Some n) l v = set_by p n l v (is_open_kind t (kind_of p.graph n)) (role_at t p.graph n l)

-- Clear: refused as Set is, but for the value; fine where there was none
abbrev pub clear_by : Progress → NodeId → Label → Bool → Role → Result Progress TxCode
clear_by p n l opens (role.Property ty) = Ok (changed_to p (without_value p.graph n l))
clear_by p n l opens role.Nothing =
    cond (opens && is_open_label l) (Ok (changed_to p (without_value p.graph n l))) (Err code.NotProperty)
clear_by p n l opens _ = Err code.NotProperty

abbrev pub clear_step : Tables → Progress → Option NodeId → Label → Result Progress TxCode
clear_step t p None l = Err code.NoNode
clear_step t p (Some n) l = clear_by p n l (is_open_kind t (kind_of p.graph n)) (role_at t p.graph n l)

-- Connect: an arc that is there stays in its place, and nothing is changed; into a single input the
-- new arc replaces the one that is there. A new arc into a cascading input populates.
abbrev pub freed : Role → Graph → ArcRec → Graph
freed r g a = cond (is_array r) g (without_arcs_into g a.node a.input)

abbrev pub connected : Progress → ArcRec → Graph → Result Progress TxCode
connected p a g = cond (nat_lt (length g.arcs) max_arcs) (Ok (changed_to p (with_arc g a))) (Err code.TooManyArcs)

abbrev pub arc_step : Progress → ArcRec → Role → Result Progress TxCode
arc_step p a input = cond (is_arc p.graph a) (Ok p) (connected p a (freed input p.graph a))

abbrev pub typed_arc : Progress → ArcRec → Role → Option Ty → Option Ty → Result Progress TxCode
typed_arc p a input None takes = Err code.NotOutput
typed_arc p a input (Some gives) None = Err code.NotInput
typed_arc p a input (Some gives) (Some takes) = cond (same_ty gives takes) (arc_step p a input) (Err code.ArcType)

abbrev pub populated : Tables → ArcRec → Bool → Progress → Result Progress TxCode
populated t a populates p = cond populates (populate t p a.node a.input) (Ok p)

abbrev pub connect_nodes : Tables → Progress → ArcRec → Result Progress TxCode
connect_nodes t p a =
    let input = role_at t p.graph a.node a.input in
    and_then (typed_arc p a input (given (role_at t p.graph a.src.node a.src.label)) (taken input))
    (populated t a (cascades input && not (is_arc p.graph a)))

abbrev pub connect_step : Tables → Progress → Option NodeId → Label → Option NodeId → Label → Result Progress TxCode
connect_step t p None l target i = Err code.NoNode
connect_step t p (Some n) l None i = Err code.NoNode
connect_step t p (Some n) l (Some m) i =
    connect_nodes t p (record { src = record { node = n; label = l }; node = m; input = i })

-- Disconnect: only an explicit arc can be removed
abbrev pub disconnect_arc : Progress → ArcRec → Option Ty → Result Progress TxCode
disconnect_arc p a None = Err code.NotInput
disconnect_arc p a (Some takes) = cond (is_arc p.graph a) (Ok (changed_to p (without_arc p.graph a))) (Err code.NoArc)

abbrev pub disconnect_step : Tables → Progress → Option NodeId → Label → Option NodeId → Label → Result Progress TxCode
disconnect_step t p None l target i = Err code.NoNode
disconnect_step t p (Some n) l None i = Err code.NoNode
disconnect_step t p (Some n) l (Some m) i =
    disconnect_arc p (record { src = record { node = n; label = l }; node = m; input = i }) (taken (role_at t p.graph m i))

-- Delete: the node and all that goes with it, and every arc that touches one of them
abbrev pub delete_step : Tables → Progress → Option NodeId → Result Progress TxCode
delete_step t p None = Err code.NoNode
delete_step t p (Some n) = Ok (changed_to p (without_nodes p.graph (doomed t p.graph n)))

-- Mark
abbrev pub mark_step : Progress → Option NodeId → Bool → Result Progress TxCode
mark_step p None defective = Err code.NoNode
mark_step p (Some n) defective = Ok (changed_to p (with_mark p.graph n defective))

-- the id that a reference stands for: a given one, the one that the k-th of the making steps made, or
-- the override node of an original in the override of a root, also where that root was deleted
abbrev pub override_named : Graph → Option NodeId → Option NodeId → Option NodeId
override_named g (Some root) (Some original) = override_in g root original
override_named g _ _ = None

abbrev mutual
  pub id_named : Progress → NodeRef → Option NodeId
  id_named p (Id n) = Some n
  id_named p (New k) = slice_get p.made k
  id_named p (In' shape root other original) = override_named p.graph (id_inside p root) (id_inside p original)

  -- that of the reference in a box
  pub id_inside : {m : _} → Progress → Row_of-NodeRef m → Option NodeId
  id_inside p end_of-NodeRef = None
  id_inside p (more_of-NodeRef r rest) = id_named p r

-- the node of the graph at this step
abbrev pub node_named : Progress → NodeRef → Option NodeId
node_named p r = there_if p.graph (id_named p r)

abbrev pub step_of : Tables → Progress → Step → Result Progress TxCode
step_of t p (step.Make k) = make_step p k
step_of t p (step.Override n) = override_step t p (node_named p n)
step_of t p (step.Set n l v) = set_step t p (node_named p n) l v
step_of t p (step.Clear n l) = clear_step t p (node_named p n) l
step_of t p (step.Connect s l n i) = connect_step t p (node_named p s) l (node_named p n) i
step_of t p (step.Disconnect s l n i) = disconnect_step t p (node_named p s) l (node_named p n) i
step_of t p (step.Delete n) = delete_step t p (node_named p n)
step_of t p (step.Mark n defective) = mark_step p (node_named p n) defective
