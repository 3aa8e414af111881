-- How arcs are kept: each under a number that says when it was connected. The numbers are found by the arc, by
-- its target and input, and by its source.
use Rattle.std.specs.Prelude.{◌≡◌, ℕ, ◌<◌, Bool, ◌&&◌, Some, List, map}
use Rattle.std.specs.List.{AllByRecursion, take_while}
use Rattle.std.specs.List.Sorted.{IsStrictlySortedBy}
use Rattle.std.specs.Map.{keys_of, lookup}
use Rattle.std.specs.BTreeMap.{is_at}
use Rattle.std.specs.Ordering.{nat_cmp, ordering_then}
use Rattle.std.specs.declared.cmp.Ordering.{Ordering}
use Rattle.dg_base.specs.declared.ids.NodeId.{NodeId}
use Rattle.dg_base.specs.declared.ids.Label.{Label}
use Rattle.dg_base.specs.declared.ids.Endpoint.{Endpoint}
use Rattle.dg_base.specs.declared.ids.ArcRec.{ArcRec}
use Rattle.dg_base.specs.Same.{same_node, same_label}
use Rattle.dg_pmap.specs.Indexes.{IsIndex}

-- ---- by target: under a node, an input and a number stands the arc's source

abbrev pub Target : Type 0
Target = (NodeId × Label) × ℕ

abbrev pub target_cmp : Target → Target → Ordering
target_cmp a b = ordering_then (ordering_then (nat_cmp a.0.0.0 b.0.0.0) (nat_cmp a.0.1.0 b.0.1.0)) (nat_cmp a.1 b.1)

abbrev pub is_target : Target → ArcRec → Bool
is_target j a = same_node a.node j.0.0 && same_label a.input j.0.1

-- ---- by source: under a node and a number stands the arc

abbrev pub Source : Type 0
Source = NodeId × ℕ

abbrev pub source_cmp : Source → Source → Ordering
source_cmp a b = ordering_then (nat_cmp a.0.0 b.0.0) (nat_cmp a.1 b.1)

abbrev pub is_source : Source → ArcRec → Bool
is_source j a = same_node a.src.node j.0

-- ---- by the arc itself

-- each of two maps has at the other's values the other's keys
pub record IsInverse {K J : Type 0} (cmp : K → K → Ordering) (inverse_cmp : J → J → Ordering) (es : List (K × J)) (fs : List (J × K)) : Type 0 where
  pub forth : (k : K) (j : J) → lookup (is_at (cmp k)) es ≡ Some j → lookup (is_at (inverse_cmp j)) fs ≡ Some k
  pub back : (k : K) (j : J) → lookup (is_at (inverse_cmp j)) fs ≡ Some k → lookup (is_at (cmp k)) es ≡ Some j

-- ---- all of it: no number is the next one's or above

pub record AreKept (arc_cmp : ArcRec → ArcRec → Ordering) (next : ℕ) (list : List (ℕ × ArcRec)) (targets : List (Target × Endpoint)) (sources : List (Source × ArcRec)) (places : List (ArcRec × ℕ)) : Type 0 where
  pub below : AllByRecursion (λ k. k < next) (keys_of list)
  pub list_rises : IsStrictlySortedBy nat_cmp (keys_of list)
  pub targets_rise : IsStrictlySortedBy target_cmp (keys_of targets)
  pub sources_rise : IsStrictlySortedBy source_cmp (keys_of sources)
  pub places_rise : IsStrictlySortedBy arc_cmp (keys_of places)
  pub by_target : IsIndex nat_cmp target_cmp (λ j. j.1) is_target (λ a. a.src) list targets
  pub by_source : IsIndex nat_cmp source_cmp (λ j. j.1) is_source (λ a. a) list sources
  pub by_arc : IsInverse nat_cmp arc_cmp list places

-- ---- a run of an index

abbrev pub comes_into : NodeId → Label → Target × Endpoint → Bool
comes_into n i e = same_node e.0.0.0 n && same_label e.0.0.1 i

abbrev pub sources_after : NodeId → Label → List (Target × Endpoint) → List Endpoint
sources_after n i es = map (λ e. e.1) (take_while (comes_into n i) es)

abbrev pub goes_out_of : NodeId → Source × ArcRec → Bool
goes_out_of n e = same_node e.0.0 n

abbrev pub arcs_after : NodeId → List (Source × ArcRec) → List ArcRec
arcs_after n es = map (λ e. e.1) (take_while (goes_out_of n) es)
