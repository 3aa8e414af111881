-- Nodes and labels by their numbers: their tests, and nodes in id order.
use Rattle.std.proofs.Common.{◌≡◌, ℕ, ◌⊎◌, ◌==◌, true, false, List, [], ◌∷◌, map, IsTrue, nat_lt, nat_cmp, is_lt, is_eq, refl, ap, inl, inr, arith, eq-eqb, eqb-true, lt-ltb}
use Rattle.std.proofs.lemmas.Bool.{and_parts, and_from, cases_order}
use Rattle.std.proofs.lemmas.Bool.Decides.{nat_tests}
use Rattle.std.specs.Cmp.{on_total, nat_cmp_total, on_equiv, nat_eq_equiv}
use Rattle.std.specs.List.{list_all}
use Rattle.std.specs.declared.cmp.Ordering.{Ordering}
use Rattle.dg_base.specs.declared.ids.NodeId.{NodeId}
use Rattle.dg_base.specs.declared.ids.Label.{Label}
use Rattle.dg_base.specs.Same.{same_node, same_label}
use Rattle.dg_base.specs.Order.{rises_from, rises, rise_by, is_node_among, is_node_before}
use Rattle.dg_laws.proofs.Among.{Tells}
use Rattle.dg_laws.proofs.Rising.{rises-rest}
use Rattle.dg_laws.proofs.Orders.{Ranks, Compares, before_lower, same_rising}

abbrev id_with : ℕ → NodeId
id_with k = record { 0 = k }

abbrev label_with : ℕ → Label
label_with k = record { 0 = k }

pub same_node-is : (n m : NodeId) → same_node n m ≡ true → n ≡ m
same_node-is n m e = ap id_with (eqb-true n.0 m.0 e)

pub same_node-itself : (n : NodeId) → same_node n n ≡ true
same_node-itself n = eq-eqb n.0 n.0 refl

pub nodes_tell : Tells same_node
nodes_tell = record { is = same_node-is; itself = same_node-itself }

pub same_label-is : (a b : Label) → same_label a b ≡ true → a ≡ b
same_label-is a b h = ap label_with (eqb-true a.0 b.0 h)

pub labels_tell : Tells same_label
labels_tell = record { is = same_label-is; itself = λ a. eq-eqb a.0 a.0 refl }

-- ---- nodes in id order

one_number : (a b : ℕ) → (((a == b) ≡ true) ⊎ (nat_lt a b ≡ true)) ⊎ (nat_lt b a ≡ true)
one_number a b =
    elim (cases_order a b) [
      | inl same ↦ inl (inl (eq-eqb a b same))
      | inr other ↦ elim other [ inl below ↦ inl (inr (lt-ltb a b below)) | inr above ↦ inr (lt-ltb b a above) ]
    ]

numbers_apart : (a b : ℕ) → nat_lt a b ≡ true → (a == b) ≡ false
numbers_apart a b h = grind (arith, nat_tests)

numbers_trans : (a b c : ℕ) → nat_lt a b ≡ true → nat_lt b c ≡ true → nat_lt a c ≡ true
numbers_trans a b c h k = grind (arith, nat_tests)

pub nodes_rank : Ranks same_node is_node_before
nodes_rank = record {
  tells = nodes_tell;
  compared = λ a b. one_number a.0 b.0;
  apart = λ a b h. numbers_apart a.0 b.0 h;
  trans = λ a b c h k. numbers_trans a.0 b.0 c.0 h k;
}

all_above : (n : NodeId) (ns : List NodeId) → IsTrue (rises_from n.0 (map (λ m. m.0) ns)) → list_all (is_node_before n) ns ≡ true
all_above n [] h = refl
all_above n (m ∷ ns) h =
    let both = and_parts (nat_lt n.0 m.0) (rises_from m.0 (map (λ k. k.0) ns)) h in
    and_from _ _ both.0 (before_lower nodes_rank n m ns both.0 (all_above m ns both.1))

pub rise_by-from_rises : (ns : List NodeId) → IsTrue (rises (map (λ m. m.0) ns)) → rise_by is_node_before ns ≡ true
rise_by-from_rises [] h = refl
rise_by-from_rises (n ∷ ns) h = and_from _ _ (all_above n ns h) (rise_by-from_rises ns (rises-rest n.0 (map (λ m. m.0) ns) h))

rises_from-numbers : (n : NodeId) (ns : List NodeId) → list_all (is_node_before n) ns ≡ true → IsTrue (rises (map (λ m. m.0) ns)) → IsTrue (rises_from n.0 (map (λ m. m.0) ns))
rises_from-numbers n [] h k = refl
rises_from-numbers n (m ∷ ns) h k = and_from _ _ (and_parts (is_node_before n m) (list_all (is_node_before n) ns) h).0 k

pub rises-from_rise_by : (ns : List NodeId) → rise_by is_node_before ns ≡ true → IsTrue (rises (map (λ m. m.0) ns))
rises-from_rise_by [] h = refl
rises-from_rise_by (n ∷ ns) h =
    let both = and_parts (list_all (is_node_before n) ns) (rise_by is_node_before ns) h in
    rises_from-numbers n ns both.0 (rises-from_rise_by ns both.1)

-- two lists of ids that rise and have the same members are one
pub same_nodes : (ns ms : List NodeId) → IsTrue (rises (map (λ m. m.0) ns)) → IsTrue (rises (map (λ m. m.0) ms)) →
    ((n : NodeId) → is_node_among ns n ≡ is_node_among ms n) → ns ≡ ms
same_nodes ns ms h k agree = same_rising nodes_rank ns ms (rise_by-from_rises ns h) (rise_by-from_rises ms k) agree

-- how ids compare
abbrev pub node_cmp : NodeId → NodeId → Ordering
node_cmp a b = nat_cmp a.0 b.0

number_before : (a b : ℕ) → is_lt (nat_cmp a b) ≡ nat_lt a b
number_before a b = grind (arith, nat_tests)

number_same : (a b : ℕ) → (a == b) ≡ is_eq (nat_cmp a b)
number_same a b = grind (arith, nat_tests)

pub nodes_compare : Compares node_cmp same_node is_node_before
nodes_compare = record {
  total = on_total (λ (n : NodeId). n.0) nat_cmp_total;
  equivalence = on_equiv (λ (n : NodeId). n.0) nat_eq_equiv;
  tells_before = λ a b. number_before a.0 b.0;
  tells_same = λ a b. number_same a.0 b.0;
}
