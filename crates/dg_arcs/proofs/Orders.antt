-- How the keys of the indexes compare, and the runs of those of one input, and of one source node.
use Rattle.std.proofs.Common.{◌≡◌, ℕ, ◌==◌, false, ◌&&◌, nat_cmp, is_eq, sym, ap, ◌∙◌, arith}
use Rattle.std.proofs.lemmas.Bool.Decides.{nat_tests}
use Rattle.std.specs.Ordering.{is_gt, ordering_then}
use Rattle.std.specs.declared.cmp.Ordering.{Ordering}
use Rattle.dg_base.specs.declared.ids.NodeId.{NodeId}
use Rattle.dg_base.specs.declared.ids.Label.{Label}
use Rattle.dg_base.specs.declared.ids.Endpoint.{Endpoint}
use Rattle.dg_base.specs.declared.ids.ArcRec.{ArcRec}
use Rattle.dg_base.specs.Same.{same_node, same_label, same_end, same_arc}
use Rattle.dg_laws.proofs.Among.{Tells}
use Rattle.dg_laws.proofs.Ends.{end_cmp, ends_tell, ends_compare}
use Rattle.dg_pmap.proofs.Lookups.{equal-is, equal-itself}
use Rattle.dg_pmap.proofs.Parted.{IsExactOrder, order-by, numbers_order, parted_order, parted-at, eq_then}
use Rattle.dg_arcs.specs.Kept.{Target, target_cmp, is_target, Source, source_cmp, is_source}

abbrev node_with : ℕ → NodeId
node_with n = record { 0 = n }

abbrev label_with : ℕ → Label
label_with n = record { 0 = n }

abbrev node_cmp : NodeId → NodeId → Ordering
node_cmp a b = nat_cmp a.0 b.0

abbrev label_cmp : Label → Label → Ordering
label_cmp a b = nat_cmp a.0 b.0

pub nodes_order : IsExactOrder node_cmp
nodes_order = order-by (λ (a : NodeId). a.0) (λ a b h. ap node_with h) numbers_order

pub labels_order : IsExactOrder label_cmp
labels_order = order-by (λ (a : Label). a.0) (λ a b h. ap label_with h) numbers_order

pub not_above_zero : (n : ℕ) → is_gt (nat_cmp 0 n) ≡ false
not_above_zero n = grind (arith, nat_tests)

-- ---- targets: an input of a node, and a number

abbrev pub Slot : Type 0
Slot = NodeId × Label

abbrev slot_cmp : Slot → Slot → Ordering
slot_cmp a b = ordering_then (node_cmp a.0 b.0) (label_cmp a.1 b.1)

abbrev pub slots_order : IsExactOrder slot_cmp
slots_order = parted_order nodes_order labels_order

abbrev pub targets_order : IsExactOrder target_cmp
targets_order = parted_order slots_order numbers_order

two_same : (a b c d : ℕ) → is_eq (ordering_then (nat_cmp a b) (nat_cmp c d)) ≡ ((a == b) && (c == d))
two_same a b c d = grind (arith, nat_tests)

two_turned : (a b c d : ℕ) → is_eq (ordering_then (nat_cmp a b) (nat_cmp c d)) ≡ ((b == a) && (d == c))
two_turned a b c d = grind (arith, nat_tests)

pub slot-same : (a b : Slot) → is_eq (slot_cmp a b) ≡ (same_node a.0 b.0 && same_label a.1 b.1)
slot-same a b = two_same a.0.0 b.0.0 a.1.0 b.1.0

-- the one key that takes an arc under a number
pub target-at : (a : ArcRec) (k : ℕ) (j : Target) → is_eq (target_cmp j ((a.node, a.input), k)) ≡ (is_eq (nat_cmp j.1 k) && is_target j a)
target-at a k j = parted-at slots_order numbers_order (a.node, a.input) k j (is_target j a) (two_turned j.0.0.0 a.node.0 j.0.1.0 a.input.0)

-- ---- sources: a node, and a number

abbrev pub sources_order : IsExactOrder source_cmp
sources_order = parted_order nodes_order numbers_order

one_same : (a b : ℕ) → is_eq (nat_cmp a b) ≡ (a == b)
one_same a b = grind (arith, nat_tests)

one_turned : (a b : ℕ) → is_eq (nat_cmp a b) ≡ (b == a)
one_turned a b = grind (arith, nat_tests)

pub node-same : (a b : NodeId) → is_eq (node_cmp a b) ≡ same_node a b
node-same a b = one_same a.0 b.0

pub source-at : (a : ArcRec) (k : ℕ) (j : Source) → is_eq (source_cmp j (a.src.node, k)) ≡ (is_eq (nat_cmp j.1 k) && is_source j a)
source-at a k j = parted-at nodes_order numbers_order a.src.node k j (is_source j a) (one_turned j.0.0 a.src.node.0)

-- ---- arcs: a source and a target

abbrev pub arc_cmp : ArcRec → ArcRec → Ordering
arc_cmp a b = ordering_then (end_cmp a.src b.src) (ordering_then (nat_cmp a.node.0 b.node.0) (nat_cmp a.input.0 b.input.0))

ends_order : IsExactOrder end_cmp
ends_order = record { total = ends_compare.total; exact = λ a b h. ends_tell.is a b (ends_compare.tells_same a b ∙ ap is_eq h) }

abbrev parts_of : ArcRec → Endpoint × Slot
parts_of a = (a.src, (a.node, a.input))

abbrev arc_with : Endpoint × Slot → ArcRec
arc_with p = record { src = p.0; node = p.1.0; input = p.1.1 }

pub arcs_order : IsExactOrder arc_cmp
arcs_order = order-by parts_of (λ a b h. ap arc_with h) (parted_order ends_order slots_order)

pub arc-same : (a b : ArcRec) → is_eq (arc_cmp a b) ≡ same_arc a b
arc-same a b =
    eq_then (end_cmp a.src b.src) (slot_cmp (a.node, a.input) (b.node, b.input))
    ∙ ap (λ t. t && is_eq (slot_cmp (a.node, a.input) (b.node, b.input))) (sym (ends_compare.tells_same a.src b.src))
    ∙ ap (λ t. same_end a.src b.src && t) (slot-same (a.node, a.input) (b.node, b.input))

pub arcs_tell : Tells same_arc
arcs_tell = record {
  is = λ a b h. arcs_order.exact a b (equal-is _ (arc-same a b ∙ h));
  itself = λ a. sym (arc-same a a) ∙ equal-itself arcs_order.total a;
}
