-- How nodes are kept: each under its id, and the override nodes also under what they override.
use Rattle.std.specs.Prelude.{Bool, ◌&&◌, cond, Option, Some, None, List, map}
use Rattle.std.specs.List.{take_while}
use Rattle.std.specs.List.Sorted.{IsStrictlySortedBy}
use Rattle.std.specs.Map.{keys_of, remove_entry}
use Rattle.std.specs.BTreeMap.{is_at, insert_entry}
use Rattle.std.specs.Ordering.{nat_cmp, ordering_then}
use Rattle.std.specs.declared.cmp.Ordering.{Ordering}
use Rattle.dg_base.specs.declared.ids.NodeId.{NodeId}
use Rattle.dg_base.specs.declared.graph.Origin.{Origin}
use Rattle.dg_base.specs.declared.graph.Origin.TheVariants as origin
use Rattle.dg_base.specs.Same.{same_node}
use Rattle.dg_base.specs.Graph.{overrides}
use Rattle.dg_base.specs.Owned.{is_over}
use Rattle.dg_pmap.specs.Indexes.{IsIndex}
use Rattle.dg_basis.specs.declared.node_rec.NodeRec.{NodeRec}

abbrev pub node_cmp : NodeId → NodeId → Ordering
node_cmp a b = nat_cmp a.0 b.0

-- ---- by root and original: under these two and the id

abbrev pub Place : Type 0
Place = (NodeId × NodeId) × NodeId

abbrev pub place_cmp : Place → Place → Ordering
place_cmp a b = ordering_then (ordering_then (node_cmp a.0.0 b.0.0) (node_cmp a.0.1 b.0.1)) (node_cmp a.1 b.1)

abbrev pub takes_place : Place → NodeRec → Bool
takes_place j r = overrides j.0.0 j.0.1 r.origin

abbrev pub place_key : NodeId → Option Origin → Option Place
place_key n None = None
place_key n (Some (origin.Plain kind)) = None
place_key n (Some (origin.Over root original)) = Some ((root, original), n)

-- ---- by original alone: under it and the id

abbrev pub Over : Type 0
Over = NodeId × NodeId

abbrev pub over_cmp : Over → Over → Ordering
over_cmp a b = ordering_then (node_cmp a.0 b.0) (node_cmp a.1 b.1)

abbrev pub is_one_over : Over → NodeRec → Bool
is_one_over j r = is_over j.0 r.origin

abbrev pub over_key : NodeId → Option Origin → Option Over
over_key n None = None
over_key n (Some (origin.Plain kind)) = None
over_key n (Some (origin.Over root original)) = Some (original, n)

-- ---- keys at which nothing stands: with and without one, where there is one

abbrev pub with_key : {J : Type 0} → (J → J → Ordering) → Option J → List (J × Unit {0}) → List (J × Unit {0})
with_key cmp None es = es
with_key cmp (Some j) es = insert_entry cmp es j tt

abbrev pub without_key : {J : Type 0} → (J → J → Ordering) → Option J → List (J × Unit {0}) → List (J × Unit {0})
without_key cmp None es = es
without_key cmp (Some j) es = remove_entry (is_at (cmp j)) es

-- ---- all of it

abbrev pub nothing : NodeRec → Unit {0}
nothing r = tt

pub record AreKept (nodes : List (NodeId × NodeRec)) (places : List (Place × Unit {0})) (overs : List (Over × Unit {0})) : Type 0 where
  pub nodes_rise : IsStrictlySortedBy node_cmp (keys_of nodes)
  pub places_rise : IsStrictlySortedBy place_cmp (keys_of places)
  pub overs_rise : IsStrictlySortedBy over_cmp (keys_of overs)
  pub by_place : IsIndex node_cmp place_cmp (λ j. j.1) takes_place nothing nodes places
  pub by_original : IsIndex node_cmp over_cmp (λ j. j.1) is_one_over nothing nodes overs

-- ---- a run of an index

abbrev pub is_over_one : NodeId → Over × Unit {0} → Bool
is_over_one n e = same_node e.0.0 n

abbrev pub overs_after : NodeId → List (Over × Unit {0}) → List NodeId
overs_after n es = map (λ e. e.0.1) (take_while (is_over_one n) es)

-- the id of a pair of the index, where it is of this root and original
abbrev pub place_at : NodeId → NodeId → Option (Place × Unit {0}) → Option NodeId
place_at root original None = None
place_at root original (Some e) = cond (same_node e.0.0.0 root && same_node e.0.0.1 original) (Some e.0.1) None
