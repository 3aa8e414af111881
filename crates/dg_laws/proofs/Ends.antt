-- Endpoints in their order: by node, then by label.
use Rattle.std.proofs.Common.{◌≡◌, ℕ, ◌⊎◌, ◌==◌, true, false, ◌&&◌, ◌||◌, nat_lt, nat_cmp, is_lt, is_eq, refl, ap, ◌∙◌, inl, inr, arith, eq-eqb, eqb-true}
use Rattle.std.proofs.lemmas.Bool.{and_parts, and_from, cases_order}
use Rattle.std.proofs.lemmas.Bool.Decides.{nat_tests}
use Rattle.std.specs.Cmp.{then_total, on_total, nat_cmp_total, and_equiv, on_equiv, nat_eq_equiv}
use Rattle.std.specs.Ordering.{ordering_then}
use Rattle.std.specs.declared.cmp.Ordering.{Ordering}
use Rattle.dg_base.specs.declared.ids.Endpoint.{Endpoint}
use Rattle.dg_base.specs.Same.{same_node, same_label, same_end}
use Rattle.dg_base.specs.Order.{is_end_before}
use Rattle.dg_laws.proofs.Among.{Tells}
use Rattle.dg_laws.proofs.Orders.{Ranks, Compares}

abbrev end_with : ℕ → ℕ → Endpoint
end_with n l = record { node = record { 0 = n }; label = record { 0 = l } }

pub same_end-is : (a b : Endpoint) → same_end a b ≡ true → a ≡ b
same_end-is a b h =
    let both = and_parts (same_node a.node b.node) (same_label a.label b.label) h in
    ap (λ n. end_with n a.label.0) (eqb-true a.node.0 b.node.0 both.0) ∙ ap (end_with b.node.0) (eqb-true a.label.0 b.label.0 both.1)

pub same_end-itself : (a : Endpoint) → same_end a a ≡ true
same_end-itself a = and_from _ _ (eq-eqb a.node.0 a.node.0 refl) (eq-eqb a.label.0 a.label.0 refl)

pub ends_tell : Tells same_end
ends_tell = record { is = same_end-is; itself = same_end-itself }

before_trans : (a b c l m n : ℕ) → (nat_lt a b || ((a == b) && nat_lt l m)) ≡ true → (nat_lt b c || ((b == c) && nat_lt m n)) ≡ true → (nat_lt a c || ((a == c) && nat_lt l n)) ≡ true
before_trans a b c l m n h k = grind (arith, nat_tests)

one_order : (a b l m : ℕ) → ((((a == b) && (l == m)) ≡ true) ⊎ ((nat_lt a b || ((a == b) && nat_lt l m)) ≡ true)) ⊎ ((nat_lt b a || ((b == a) && nat_lt m l)) ≡ true)
one_order a b l m =
    elim (cases_order a b) [
      | inl same ↦ elim (cases_order l m) [
        | inl label ↦ inl (inl (grind (arith, nat_tests)))
        | inr other ↦ elim other [ inl below ↦ inl (inr (grind (arith, nat_tests))) | inr above ↦ inr (grind (arith, nat_tests)) ]
      ]
      | inr other ↦ elim other [ inl below ↦ inl (inr (grind (arith, nat_tests))) | inr above ↦ inr (grind (arith, nat_tests)) ]
    ]

apart_when_before : (a b l m : ℕ) → (nat_lt a b || ((a == b) && nat_lt l m)) ≡ true → ((a == b) && (l == m)) ≡ false
apart_when_before a b l m h = grind (arith, nat_tests)

pub ends_rank : Ranks same_end is_end_before
ends_rank = record {
  tells = ends_tell;
  compared = λ a b. one_order a.node.0 b.node.0 a.label.0 b.label.0;
  apart = λ a b h. apart_when_before a.node.0 b.node.0 a.label.0 b.label.0 h;
  trans = λ a b c h k. before_trans a.node.0 b.node.0 c.node.0 a.label.0 b.label.0 c.label.0 h k;
}

-- how endpoints compare
abbrev pub end_cmp : Endpoint → Endpoint → Ordering
end_cmp a b = ordering_then (nat_cmp a.node.0 b.node.0) (nat_cmp a.label.0 b.label.0)

cmp_before : (a b l m : ℕ) → is_lt (ordering_then (nat_cmp a b) (nat_cmp l m)) ≡ (nat_lt a b || ((a == b) && nat_lt l m))
cmp_before a b l m = grind (arith, nat_tests)

cmp_same : (a b l m : ℕ) → ((a == b) && (l == m)) ≡ is_eq (ordering_then (nat_cmp a b) (nat_cmp l m))
cmp_same a b l m = grind (arith, nat_tests)

pub ends_compare : Compares end_cmp same_end is_end_before
ends_compare = record {
  total = then_total (on_total (λ (e : Endpoint). e.node.0) nat_cmp_total) (on_total (λ (e : Endpoint). e.label.0) nat_cmp_total);
  equivalence = and_equiv (on_equiv (λ (e : Endpoint). e.node.0) nat_eq_equiv) (on_equiv (λ (e : Endpoint). e.label.0) nat_eq_equiv);
  tells_before = λ a b. cmp_before a.node.0 b.node.0 a.label.0 b.label.0;
  tells_same = λ a b. cmp_same a.node.0 b.node.0 a.label.0 b.label.0;
}
