-- How the keys of the indexes compare, and the runs of those of one root and original, and of one original.
use Rattle.std.proofs.Common.{◌≡◌, ℕ, ◌==◌, false, ◌&&◌, nat_cmp, is_eq, ap, ◌∙◌, arith}
use Rattle.std.proofs.lemmas.Bool.Decides.{nat_tests}
use Rattle.std.specs.Ordering.{is_gt}
use Rattle.dg_base.specs.declared.ids.NodeId.{NodeId}
use Rattle.dg_base.specs.Same.{same_node}
use Rattle.dg_pmap.proofs.Parted.{IsExactOrder, order-by, numbers_order, parted_order, eq_then}
use Rattle.dg_basis.specs.Keys.{node_cmp, place_cmp, over_cmp}

abbrev node_with : ℕ → NodeId
node_with n = record { 0 = n }

pub nodes_order : IsExactOrder node_cmp
nodes_order = order-by (λ (a : NodeId). a.0) (λ a b h. ap node_with h) numbers_order

abbrev pub pairs_order : IsExactOrder over_cmp
pairs_order = parted_order nodes_order nodes_order

abbrev pub places_order : IsExactOrder place_cmp
places_order = parted_order pairs_order nodes_order

number_same : (a b : ℕ) → is_eq (nat_cmp a b) ≡ (a == b)
number_same a b = grind (arith, nat_tests)

pub node-same : (a b : NodeId) → is_eq (node_cmp a b) ≡ same_node a b
node-same a b = number_same a.0 b.0

number_turned : (a b : ℕ) → is_eq (nat_cmp a b) ≡ (b == a)
number_turned a b = grind (arith, nat_tests)

pub node-turned : (a b : NodeId) → is_eq (node_cmp a b) ≡ same_node b a
node-turned a b = number_turned a.0 b.0

pub pair-same : (a b : NodeId × NodeId) → is_eq (over_cmp a b) ≡ (same_node a.0 b.0 && same_node a.1 b.1)
pair-same a b = eq_then (node_cmp a.0 b.0) (node_cmp a.1 b.1) ∙ ap (λ t. t && is_eq (node_cmp a.1 b.1)) (node-same a.0 b.0) ∙ ap (λ t. same_node a.0 b.0 && t) (node-same a.1 b.1)

pub pair-turned : (a b : NodeId × NodeId) → is_eq (over_cmp a b) ≡ (same_node b.0 a.0 && same_node b.1 a.1)
pair-turned a b = eq_then (node_cmp a.0 b.0) (node_cmp a.1 b.1) ∙ ap (λ t. t && is_eq (node_cmp a.1 b.1)) (node-turned a.0 b.0) ∙ ap (λ t. same_node b.0 a.0 && t) (node-turned a.1 b.1)

not_above_zero : (n : ℕ) → is_gt (nat_cmp 0 n) ≡ false
not_above_zero n = grind (arith, nat_tests)

abbrev pub first_node : NodeId
first_node = record { 0 = 0 }

pub first-low : (n : NodeId) → is_gt (node_cmp first_node n) ≡ false
first-low n = not_above_zero n.0
