-- What is read of the override nodes from the indexes.
use Rattle.std.proofs.Common.{◌≡◌, Bool, true, false, cond, ◌&&◌, List, [], ◌∷◌, Option, Some, None, option_map, map, filter, find, drop, refl, sym, ap, ◌∙◌}
use Rattle.std.proofs.lemmas.Map.Entries.{option_filter}
use Rattle.dg_base.specs.declared.ids.NodeId.{NodeId}
use Rattle.dg_base.specs.Same.{same_node}
use Rattle.dg_base.specs.Graph.{overrides, override_in}
use Rattle.dg_base.specs.Owned.{is_over, overs}
use Rattle.dg_pmap.specs.Places.{count_below, first_at_least}
use Rattle.dg_pmap.proofs.Indexes.{index-run}
use Rattle.dg_pmap.proofs.Parted.{parted-run, parted-run_at}
use Rattle.dg_pmap.proofs.Runs.{filter-run, find-run}
use Rattle.dg_basis.specs.declared.node_rec.NodeRec.{NodeRec}
use Rattle.dg_basis.specs.NodeLists.{nodes_alone}
use Rattle.dg_basis.specs.Keys.{Place, place_cmp, takes_place, Over, over_cmp, is_one_over, nothing, AreKept, overs_after, place_at}
use Rattle.dg_basis.proofs.Orders.{nodes_order, pairs_order, places_order, pair-same, node-same, first_node, first-low}
use Rattle.dg_basis.proofs.Listing.{listed, listed-find, listed-filter}

abbrev Entry : Type 0
Entry = NodeId × NodeRec

abbrev is_place : NodeId → NodeId → Place → Bool
is_place root original j = same_node j.0.0 root && same_node j.0.1 original

abbrev is_original : NodeId → Over → Bool
is_original n j = same_node j.0 n

-- the first of what a filter leaves
abbrev head : {X : Type 0} → List X → Option X
head [] = None
head (x ∷ xs) = Some x

module _ {X : Type 0} where
  unfolded : {Y : Type 0} (f : X → Y) (xs : List X) → head (map f xs) ≡ option_map f (head xs)
  unfolded f [] = refl
  unfolded f (x ∷ xs) = refl

  head-filter : (p : X → Bool) (xs : List X) → head (filter p xs) ≡ find p xs
  head-filter p [] = refl
  head-filter p (x ∷ xs) = by_test (p x) (head-filter p xs)
    where
      by_test : (b : Bool) → head (filter p xs) ≡ find p xs → head (cond b (x ∷ filter p xs) (filter p xs)) ≡ cond b (Some x) (find p xs)
      by_test true rest = refl
      by_test false rest = rest

mapped_twice : {X Y Z : Type 0} (f : X → Y) (g : Y → Z) (o : Option X) → option_map g (option_map f o) ≡ option_map (λ x. g (f x)) o
mapped_twice f g None = refl
mapped_twice f g (Some x) = refl

map_twice : {X Y Z : Type 0} (f : X → Y) (g : Y → Z) (xs : List X) → map g (map f xs) ≡ map (λ x. g (f x)) xs
map_twice f g [] = refl
map_twice f g (x ∷ xs) = ap (λ l. g (f x) ∷ l) (map_twice f g xs)

place_at-is : (root original : NodeId) (found : Option (Place × Unit {0})) → place_at root original found ≡ option_map (λ (e : Place × Unit {0}). e.0.1) (option_filter (λ (e : Place × Unit {0}). is_place root original e.0) found)
place_at-is root original None = refl
place_at-is root original (Some e) = by_test (is_place root original e.0)
  where
    by_test : (b : Bool) → cond b (Some e.0.1) None ≡ option_map (λ (f : Place × Unit {0}). f.0.1) (cond b (Some e) None)
    by_test true = refl
    by_test false = refl

module _ {nodes : List Entry} {places : List (Place × Unit {0})} {index : List (Over × Unit {0})} (s : AreKept nodes places index) where
  pub override-is : (root original : NodeId) → place_at root original (first_at_least place_cmp ((root, original), first_node) places) ≡ override_in (nodes_alone (listed nodes)) root original
  override-is root original =
      place_at-is root original (first_at_least place_cmp ((root, original), first_node) places)
      ∙ ap (option_map (λ (e : Place × Unit {0}). e.0.1))
      (sym (find-run places_order.total ((root, original), first_node) (is_place root original)
      (parted-run pairs_order nodes_order (root, original) (is_place root original) (λ j. pair-same j.0 (root, original)) first_node first-low) places s.places_rise)
      ∙ sym (head-filter (λ (e : Place × Unit {0}). is_place root original e.0) places)
      ∙ ap head (index-run nodes_order.total places_order.total places_order.exact (λ (j : Place). j.1) takes_place nothing (λ (k : NodeId). ((root, original), k)) (is_place root original)
      (λ (r : NodeRec). overrides root original r.origin)
      (parted-run_at pairs_order nodes_order (root, original) (is_place root original) (λ j. pair-same j.0 (root, original)) takes_place nothing (λ (r : NodeRec). overrides root original r.origin) (λ k r. refl))
      nodes places s.nodes_rise s.places_rise s.by_place)
      ∙ unfolded (λ (e : Entry). (((root, original), e.0), tt)) (filter (λ (e : Entry). overrides root original e.1.origin) nodes)
      ∙ ap (option_map (λ (e : Entry). (((root, original), e.0), tt))) (head-filter (λ (e : Entry). overrides root original e.1.origin) nodes))
      ∙ mapped_twice (λ (e : Entry). (((root, original), e.0), tt)) (λ (e : Place × Unit {0}). e.0.1) (find (λ (e : Entry). overrides root original e.1.origin) nodes)
      ∙ listed-find (overrides root original) nodes

  pub overs-are : (n : NodeId) → overs_after n (drop (count_below over_cmp (n, first_node) index) index) ≡ overs (nodes_alone (listed nodes)) n
  overs-are n =
      ap (map (λ (e : Over × Unit {0}). e.0.1))
      (sym (filter-run pairs_order.total (n, first_node) (is_original n) (parted-run nodes_order nodes_order n (is_original n) (λ j. node-same j.0 n) first_node first-low) index s.overs_rise)
      ∙ index-run nodes_order.total pairs_order.total pairs_order.exact (λ (j : Over). j.1) is_one_over nothing (λ (k : NodeId). (n, k)) (is_original n) (λ (r : NodeRec). is_over n r.origin)
      (parted-run_at nodes_order nodes_order n (is_original n) (λ j. node-same j.0 n) is_one_over nothing (λ (r : NodeRec). is_over n r.origin) (λ k r. refl))
      nodes index s.nodes_rise s.overs_rise s.by_original)
      ∙ map_twice (λ (e : Entry). ((n, e.0), tt)) (λ (e : Over × Unit {0}). e.0.1) (filter (λ (e : Entry). is_over n e.1.origin) nodes)
      ∙ listed-filter (is_over n) nodes
