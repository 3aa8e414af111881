-- What is read of one node from the indexes.
use Rattle.std.proofs.Common.{◌≡◌, ℕ, Bool, ◌&&◌, List, [], ◌∷◌, map, filter, drop, refl, sym, ap, ◌∙◌}
use Rattle.std.specs.Map.{values_of}
use Rattle.dg_base.specs.declared.ids.NodeId.{NodeId}
use Rattle.dg_base.specs.declared.ids.Label.{Label}
use Rattle.dg_base.specs.declared.ids.Endpoint.{Endpoint}
use Rattle.dg_base.specs.declared.ids.ArcRec.{ArcRec}
use Rattle.dg_base.specs.Same.{same_node, same_label}
use Rattle.dg_base.specs.Graph.{explicit_sources}
use Rattle.dg_pmap.specs.Places.{count_below}
use Rattle.dg_pmap.proofs.Indexes.{index-values}
use Rattle.dg_pmap.proofs.Parted.{numbers_order, parted-run, parted-run_at}
use Rattle.dg_pmap.proofs.Runs.{filter-run}
use Rattle.dg_arcs.specs.ArcLists.{arcs_alone, arcs_out_of}
use Rattle.dg_arcs.specs.Kept.{Target, target_cmp, is_target, Source, source_cmp, is_source, AreKept, sources_after, arcs_after}
use Rattle.dg_arcs.proofs.Orders.{nodes_order, slots_order, targets_order, sources_order, slot-same, node-same, not_above_zero, arc_cmp}

abbrev is_slot : NodeId → Label → Target → Bool
is_slot n i j = same_node j.0.0 n && same_label j.0.1 i

abbrev is_at_node : NodeId → Source → Bool
is_at_node n j = same_node j.0 n

abbrev into_one : NodeId → Label → ArcRec → Bool
into_one n i a = same_node a.node n && same_label a.input i

abbrev out_of_one : NodeId → ArcRec → Bool
out_of_one n a = same_node a.src.node n

map-itself : (as_ : List ArcRec) → map (λ (a : ArcRec). a) as_ ≡ as_
map-itself [] = refl
map-itself (a ∷ as_) = ap (λ l. a ∷ l) (map-itself as_)

module _ {next : ℕ} {list : List (ℕ × ArcRec)} {targets : List (Target × Endpoint)} {sources : List (Source × ArcRec)} {places : List (ArcRec × ℕ)} (s : AreKept arc_cmp next list targets sources places) where
  pub into-is : (n : NodeId) (i : Label) → sources_after n i (drop (count_below target_cmp ((n, i), 0) targets) targets) ≡ explicit_sources (arcs_alone (values_of list)) n i
  into-is n i =
      let is = λ (j : Target). slot-same j.0 (n, i) in
      ap (map (λ (e : Target × Endpoint). e.1))
      (sym (filter-run targets_order.total ((n, i), 0) (is_slot n i) (parted-run slots_order numbers_order (n, i) (is_slot n i) is 0 not_above_zero) targets s.targets_rise))
      ∙ index-values numbers_order.total targets_order.total targets_order.exact (λ (j : Target). j.1) is_target (λ (a : ArcRec). a.src) (λ (k : ℕ). ((n, i), k)) (is_slot n i) (into_one n i)
      (parted-run_at slots_order numbers_order (n, i) (is_slot n i) is is_target (λ (a : ArcRec). a.src) (into_one n i) (λ k a. refl))
      list targets s.list_rises s.targets_rise s.by_target

  pub out_of-is : (n : NodeId) → arcs_after n (drop (count_below source_cmp (n, 0) sources) sources) ≡ arcs_out_of (values_of list) n
  out_of-is n =
      let is = λ (j : Source). node-same j.0 n in
      ap (map (λ (e : Source × ArcRec). e.1))
      (sym (filter-run sources_order.total (n, 0) (is_at_node n) (parted-run nodes_order numbers_order n (is_at_node n) is 0 not_above_zero) sources s.sources_rise))
      ∙ index-values numbers_order.total sources_order.total sources_order.exact (λ (j : Source). j.1) is_source (λ (a : ArcRec). a) (λ (k : ℕ). (n, k)) (is_at_node n) (out_of_one n)
      (parted-run_at nodes_order numbers_order n (is_at_node n) is is_source (λ (a : ArcRec). a) (out_of_one n) (λ k a. refl))
      list sources s.list_rises s.sources_rise s.by_source
      ∙ map-itself (filter (out_of_one n) (values_of list))
