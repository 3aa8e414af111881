-- Nodes stay well kept: where there are none, with one put, and without one.
use Rattle.std.proofs.Common.{◌≡◌, ◌&&◌, Bool, false, cond, List, [], Option, Some, None, option_map, is_eq, refl, sym, ap, subst}
use Rattle.std.specs.List.Sorted.{IsStrictlySortedBy}
use Rattle.std.specs.Map.{keys_of, lookup, remove_entry}
use Rattle.std.specs.BTreeMap.{is_at, insert_entry}
use Rattle.std.specs.declared.cmp.Ordering.{Ordering}
use Rattle.dg_base.specs.declared.ids.NodeId.{NodeId}
use Rattle.dg_base.specs.declared.graph.Origin.{Origin}
use Rattle.dg_base.specs.declared.graph.Origin.TheVariants as origin
use Rattle.dg_base.specs.Graph.{overrides}
use Rattle.dg_base.specs.Owned.{is_over}
use Rattle.dg_pmap.specs.Indexes.{chosen, IsIndex}
use Rattle.dg_pmap.proofs.Indexes.{index-insert_same, index-insert, index-remove_same, index-remove}
use Rattle.dg_pmap.proofs.Lookups.{insert-without, lookup-gone}
use Rattle.dg_pmap.proofs.Parted.{IsExactOrder, parted-at}
use Rattle.dg_pmap.proofs.Sorted.{sorted-insert_entry, sorted-remove_entry}
use Rattle.dg_basis.specs.declared.node_rec.NodeRec.{NodeRec}
use Rattle.dg_basis.specs.Keys.{node_cmp, Place, place_cmp, place_key, Over, over_cmp, over_key, with_key, without_key, nothing, AreKept}
use Rattle.dg_basis.proofs.Orders.{nodes_order, pairs_order, places_order, pair-turned, node-turned}

abbrev Entry : Type 0
Entry = NodeId × NodeRec

pub kept-none : AreKept [] [] []
unfolding IsStrictlySortedBy
kept-none = record { nodes_rise = tt; places_rise = tt; overs_rise = tt; by_place = λ j. refl; by_original = λ j. refl }

-- ---- keys in order

module _ {J : Type 0} {cmp : J → J → Ordering} (r : IsExactOrder cmp) (es : List (J × Unit {0})) (s : IsStrictlySortedBy cmp (keys_of es)) where
  with_key-sorted : (key : Option J) → IsStrictlySortedBy cmp (keys_of (with_key cmp key es))
  with_key-sorted None = s
  with_key-sorted (Some j) = sorted-insert_entry r.total j tt es s

  without_key-sorted : (key : Option J) → IsStrictlySortedBy cmp (keys_of (without_key cmp key es))
  without_key-sorted None = s
  without_key-sorted (Some j) = sorted-remove_entry r.total (is_at (cmp j)) es s

-- ---- an index whose keys name what a node's origin says: `takes` tells whether an origin is at a key, and `key_of` gives the key

module _ {P : Type 0} {index_cmp : P × NodeId → P × NodeId → Ordering} (order : IsExactOrder index_cmp) (takes : P × NodeId → Origin → Bool) (key_of : NodeId → Option Origin → Option (P × NodeId)) where
  abbrev takes_rec : P × NodeId → NodeRec → Bool
  takes_rec j r = takes j r.origin

  abbrev IsOne : List Entry → List ((P × NodeId) × Unit {0}) → Type 0
  IsOne nodes index = IsIndex node_cmp index_cmp (λ (j : P × NodeId). j.1) takes_rec nothing nodes index

  -- no origin has no key; an origin has none where it is at no key, and else the one key at which it is
  abbrev Says : NodeId → Origin → Option (P × NodeId) → Type 0
  Says n o None = (j : P × NodeId) → takes j o ≡ false
  Says n o (Some j0) = (j : P × NodeId) → is_eq (index_cmp j j0) ≡ (is_eq (node_cmp j.1 n) && takes j o)

  module _ (none : (n : NodeId) → key_of n None ≡ None) (says : (n : NodeId) (o : Origin) → Says n o (key_of n (Some o))) (n : NodeId) (nodes : List Entry) (s : IsStrictlySortedBy node_cmp (keys_of nodes)) (index : List ((P × NodeId) × Unit {0})) (t : IsStrictlySortedBy index_cmp (keys_of index)) (i : IsOne nodes index) where
    no_choice : (r : NodeRec) → ((j : P × NodeId) → takes j r.origin ≡ false) → (j : P × NodeId) → chosen takes_rec nothing j (Some r) ≡ None
    no_choice r h j = ap (λ b. cond b (Some tt) None) (h j)

    one-same : (r before : NodeRec) → lookup (is_at (node_cmp n)) nodes ≡ Some before → before.origin ≡ r.origin → IsOne (insert_entry node_cmp nodes n r) index
    one-same r before was same =
        index-insert_same nodes_order.total order.total (λ (j : P × NodeId). j.1) takes_rec nothing nodes index i n r (Some before) was (λ j h. ap (λ (o : Origin). cond (takes j o) (Some tt) None) (sym same))

    one-forgotten : (before : Option NodeRec) → lookup (is_at (node_cmp n)) nodes ≡ before → IsOne (remove_entry (is_at (node_cmp n)) nodes) (without_key index_cmp (key_of n (option_map (λ (r : NodeRec). r.origin) before)) index)
    one-forgotten None was =
        subst (λ (key : Option (P × NodeId)). IsOne (remove_entry (is_at (node_cmp n)) nodes) (without_key index_cmp key index)) (sym (none n))
        (index-remove_same nodes_order.total order.total (λ (j : P × NodeId). j.1) takes_rec nothing nodes index i n s None was (λ j h. refl))
    one-forgotten (Some r) was = by_key (key_of n (Some r.origin)) (says n r.origin)
      where
        by_key : (key : Option (P × NodeId)) → Says n r.origin key → IsOne (remove_entry (is_at (node_cmp n)) nodes) (without_key index_cmp key index)
        by_key None h = index-remove_same nodes_order.total order.total (λ (j : P × NodeId). j.1) takes_rec nothing nodes index i n s (Some r) was (λ j k. no_choice r h j)
        by_key (Some j0) h = index-remove nodes_order.total order.total (λ (j : P × NodeId). j.1) takes_rec nothing nodes index i n s t r j0 was h

    one-noted : (r : NodeRec) → lookup (is_at (node_cmp n)) nodes ≡ None → IsOne (insert_entry node_cmp nodes n r) (with_key index_cmp (key_of n (Some r.origin)) index)
    one-noted r fresh = by_key (key_of n (Some r.origin)) (says n r.origin)
      where
        by_key : (key : Option (P × NodeId)) → Says n r.origin key → IsOne (insert_entry node_cmp nodes n r) (with_key index_cmp key index)
        by_key None h = index-insert_same nodes_order.total order.total (λ (j : P × NodeId). j.1) takes_rec nothing nodes index i n r None fresh (λ j k. no_choice r h j)
        by_key (Some j0) h = index-insert nodes_order.total order.total (λ (j : P × NodeId). j.1) takes_rec nothing nodes index i n r j0 fresh h

  module _ (none : (n : NodeId) → key_of n None ≡ None) (says : (n : NodeId) (o : Origin) → Says n o (key_of n (Some o))) (n : NodeId) (nodes : List Entry) (s : IsStrictlySortedBy node_cmp (keys_of nodes)) (index : List ((P × NodeId) × Unit {0})) (t : IsStrictlySortedBy index_cmp (keys_of index)) (i : IsOne nodes index) where
    one-put : (r : NodeRec) → IsOne (insert_entry node_cmp nodes n r) (with_key index_cmp (key_of n (Some r.origin)) (without_key index_cmp (key_of n (option_map (λ (x : NodeRec). x.origin) (lookup (is_at (node_cmp n)) nodes))) index))
    one-put r =
        let before = key_of n (option_map (λ (x : NodeRec). x.origin) (lookup (is_at (node_cmp n)) nodes)) in
        subst (λ (es : List Entry). IsOne es (with_key index_cmp (key_of n (Some r.origin)) (without_key index_cmp before index))) (insert-without nodes_order.total nodes_order.exact n r nodes s)
        (one-noted none says n (remove_entry (is_at (node_cmp n)) nodes) (sorted-remove_entry nodes_order.total (is_at (node_cmp n)) nodes s)
        (without_key index_cmp before index) (without_key-sorted order index t before)
        (one-forgotten none says n nodes s index t i (lookup (is_at (node_cmp n)) nodes) refl)
        r (lookup-gone nodes_order.total n nodes s))

-- ---- both indexes

place-says : (n : NodeId) (o : Origin) → Says places_order (λ (j : Place) (o : Origin). overrides j.0.0 j.0.1 o) place_key n o (place_key n (Some o))
place-says n (origin.Plain kind) = λ j. refl
place-says n (origin.Over root original) = λ j. parted-at pairs_order nodes_order (root, original) n j (overrides j.0.0 j.0.1 (origin.Over root original)) (pair-turned j.0 (root, original))

over-says : (n : NodeId) (o : Origin) → Says pairs_order (λ (j : Over) (o : Origin). is_over j.0 o) over_key n o (over_key n (Some o))
over-says n (origin.Plain kind) = λ j. refl
over-says n (origin.Over root original) = λ j. parted-at nodes_order nodes_order original n j (is_over j.0 (origin.Over root original)) (node-turned j.0 original)

module _ {nodes : List Entry} {places : List (Place × Unit {0})} {overs : List (Over × Unit {0})} (s : AreKept nodes places overs) (n : NodeId) where
  kept-same : (r before : NodeRec) → lookup (is_at (node_cmp n)) nodes ≡ Some before → before.origin ≡ r.origin → AreKept (insert_entry node_cmp nodes n r) places overs
  kept-same r before was same = record {
    nodes_rise = sorted-insert_entry nodes_order.total n r nodes s.nodes_rise;
    places_rise = s.places_rise;
    overs_rise = s.overs_rise;
    by_place = one-same places_order (λ (j : Place) (o : Origin). overrides j.0.0 j.0.1 o) place_key (λ m. refl) place-says n nodes s.nodes_rise places s.places_rise s.by_place r before was same;
    by_original = one-same pairs_order (λ (j : Over) (o : Origin). is_over j.0 o) over_key (λ m. refl) over-says n nodes s.nodes_rise overs s.overs_rise s.by_original r before was same;
  }

  pub kept-put_same : (r : NodeRec) (found : Option NodeRec) → lookup (is_at (node_cmp n)) nodes ≡ found → option_map (λ (x : NodeRec). x.origin) found ≡ Some r.origin → AreKept (insert_entry node_cmp nodes n r) places overs
  kept-put_same r None was h = let none : ⊥ = cc in absurd none
  kept-put_same r (Some before) was h = let same : before.origin ≡ r.origin = cc in kept-same r before was same

  pub kept-put : (r : NodeRec) (before : Option Origin) → before ≡ option_map (λ (x : NodeRec). x.origin) (lookup (is_at (node_cmp n)) nodes) →
      AreKept (insert_entry node_cmp nodes n r) (with_key place_cmp (place_key n (Some r.origin)) (without_key place_cmp (place_key n before) places)) (with_key over_cmp (over_key n (Some r.origin)) (without_key over_cmp (over_key n before) overs))
  kept-put r before was = record {
    nodes_rise = sorted-insert_entry nodes_order.total n r nodes s.nodes_rise;
    places_rise = with_key-sorted places_order _ (without_key-sorted places_order places s.places_rise (place_key n before)) (place_key n (Some r.origin));
    overs_rise = with_key-sorted pairs_order _ (without_key-sorted pairs_order overs s.overs_rise (over_key n before)) (over_key n (Some r.origin));
    by_place = rw was (one-put places_order (λ (j : Place) (o : Origin). overrides j.0.0 j.0.1 o) place_key (λ m. refl) place-says n nodes s.nodes_rise places s.places_rise s.by_place r);
    by_original = rw was (one-put pairs_order (λ (j : Over) (o : Origin). is_over j.0 o) over_key (λ m. refl) over-says n nodes s.nodes_rise overs s.overs_rise s.by_original r);
  }

  pub kept-without : (before : Option Origin) → before ≡ option_map (λ (x : NodeRec). x.origin) (lookup (is_at (node_cmp n)) nodes) →
      AreKept (remove_entry (is_at (node_cmp n)) nodes) (without_key place_cmp (place_key n before) places) (without_key over_cmp (over_key n before) overs)
  kept-without before was = record {
    nodes_rise = sorted-remove_entry nodes_order.total (is_at (node_cmp n)) nodes s.nodes_rise;
    places_rise = without_key-sorted places_order places s.places_rise (place_key n before);
    overs_rise = without_key-sorted pairs_order overs s.overs_rise (over_key n before);
    by_place = rw was (one-forgotten places_order (λ (j : Place) (o : Origin). overrides j.0.0 j.0.1 o) place_key (λ m. refl) place-says n nodes s.nodes_rise places s.places_rise s.by_place (lookup (is_at (node_cmp n)) nodes) refl);
    by_original = rw was (one-forgotten pairs_order (λ (j : Over) (o : Origin). is_over j.0 o) over_key (λ m. refl) over-says n nodes s.nodes_rise overs s.overs_rise s.by_original (lookup (is_at (node_cmp n)) nodes) refl);
  }
