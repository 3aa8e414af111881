-- Override nodes: for all nodes of a list, and for what is connected below an original.
use Rattle.std.specs.Prelude.{◌≡◌, ◌≤◌, ◌+◌, List, [], ◌∷◌, cond, not, Option, Some, None, Result, Ok, Err, filter, flat_map, nat_le, is_some, IsTrue}
use Rattle.dg_base.specs.declared.ids.NodeId.{NodeId}
use Rattle.dg_base.specs.declared.ids.Label.{Label}
use Rattle.dg_base.specs.declared.ids.Endpoint.{Endpoint}
use Rattle.dg_base.specs.declared.graph.Node.{Node}
use Rattle.dg_base.specs.declared.graph.Origin.{Origin}
use Rattle.dg_base.specs.declared.graph.Origin.TheVariants as origin
use Rattle.dg_base.specs.declared.step.TxCode.{TxCode}
use Rattle.dg_base.specs.declared.step.TxCode.TheVariants as code
use Rattle.dg_base.specs.Same.{same_node}
use Rattle.dg_base.specs.Order.{is_node_among, nodes_once}
use Rattle.dg_base.specs.Tables.{Tables}
use Rattle.dg_base.specs.Graph.{Graph, node_at, has_node, override_in, explicit_sources}
use Rattle.dg_base.specs.Chain.{heirs}
use Rattle.dg_base.specs.Sources.{sources}
use Rattle.dg_base.specs.Owned.{cascade_tree}
use Rattle.dg_base.specs.Sound.{max_nodes, names_itself}
use Rattle.dg_base.specs.Refusal.{and_then}
use Rattle.dg_base.specs.Changes.{over_node, with_node}
use Rattle.dg_base.specs.Progress.{Progress, IsReady}

-- the nodes of a list, in order, get override nodes in the override of a root; refused where an id
-- would be above the limit
abbrev pub override_all : NodeId → List NodeId → Progress → Result Progress TxCode
override_all root [] p = Ok p
override_all root (n ∷ ns) p =
    cond (nat_le p.next max_nodes)
    (override_all root ns (record { graph = with_node p.graph (over_node p.next root n); next = p.next + 1; made = p.made }))
    (Err code.TooManyNodes)

-- when nodes may get override nodes in the override of a root: the root fits, the nodes are there, each
-- once, and have none in it yet
pub record MayOverride (t : Tables) (p : Progress) (root : NodeId) (ns : List NodeId) : Type 0 where
  pub ready : IsReady t p
  pub root_upto : root.0 ≤ p.next
  pub root_own : IsTrue (names_itself root (node_at p.graph root))
  pub are_there : (m : NodeId) → IsTrue (is_node_among ns m) → IsTrue (has_node p.graph m)
  pub are_new : (m : NodeId) → IsTrue (is_node_among ns m) → override_in p.graph root m ≡ None
  pub once : IsTrue (nodes_once ns)

-- Populating: each heir of the target whose sources of the input are inherited gets, in its own
-- override, override nodes of the cascade trees of its original's sources, of those members that
-- have none there, in the order of the walk. The trees are those of the graph as it is when the
-- heir's turn comes, and the heirs those that were there before.
abbrev pub firsts : List NodeId → List NodeId
firsts [] = []
firsts (n ∷ ns) = n ∷ filter (λ m. not (same_node n m)) (firsts ns)

abbrev pub lacking : Tables → Graph → NodeId → List Endpoint → List NodeId
lacking t g root ss =
    filter (λ m. not (is_some (override_in g root m))) (firsts (flat_map (λ s. cascade_tree t g s.node) ss))

abbrev pub populate_over : Tables → Progress → Label → Origin → Result Progress TxCode
populate_over t p i (origin.Plain kind) = Ok p
populate_over t p i (origin.Over root original) =
    override_all root (lacking t p.graph root (sources p.graph original i)) p

abbrev pub populate_inherited : Tables → Progress → Label → Option Node → List Endpoint → Result Progress TxCode
populate_inherited t p i None own = Ok p
populate_inherited t p i (Some x) [] = populate_over t p i x.origin
populate_inherited t p i (Some x) (s ∷ ss) = Ok p

abbrev pub populate_heir : Tables → Progress → Label → NodeId → Result Progress TxCode
populate_heir t p i h = populate_inherited t p i (node_at p.graph h) (explicit_sources p.graph h i)

abbrev pub populate_all : Tables → Label → List NodeId → Progress → Result Progress TxCode
populate_all t i [] p = Ok p
populate_all t i (h ∷ hs) p = and_then (populate_heir t p i h) (populate_all t i hs)

abbrev pub populate : Tables → Progress → NodeId → Label → Result Progress TxCode
populate t p n i = populate_all t i (filter (λ h. not (same_node h n)) (heirs p.graph n)) p
