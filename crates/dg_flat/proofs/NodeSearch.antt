-- What a search by halves finds among nodes whose ids rise.
use Rattle.std.proofs.Common.{◌≡◌, ℕ, zero, suc, ◌+◌, ◌<◌, ◌≤◌, Bool, true, false, cond, List, [], ◌∷◌, Option, Some, None, map, find, length, IsTrue, nat_lt, refl, sym, ap, ◌∙◌, arith, ne_eqb, ltb-true, ltb-false, slice_get, get_or, subst, is_some, true≢false}
use Rattle.std.proofs.lemmas.Bool.{and_parts}
use Rattle.std.specs.List.{AllAdjacentBelow}
use Rattle.std.specs.List.Sorted.{IsPartitionPoint, IsPartitionedBy}
use Rattle.std.proofs.lemmas.List.Sorted.{IsPartitionedBy-ltb, IsNonDecreasingBy-from_all_adjacent}
use Rattle.dg_base.specs.declared.ids.NodeId.{NodeId}
use Rattle.dg_base.specs.declared.graph.Node.{Node}
use Rattle.dg_base.specs.Same.{same_node}
use Rattle.dg_base.specs.Order.{rises_from, rises}
use Rattle.dg_laws.proofs.Rising.{rises-rest}
use Rattle.dg_flat.specs.Lookup.{with_id}

abbrev pub is_below : NodeId → Node → Bool
is_below n x = nat_lt x.id.0 n.0

abbrev pub ArePointed : NodeId → List Node → ℕ → Type 0
ArePointed n xs i = IsPartitionPoint (λ y. is_below n y ≡ true) (λ y. is_below n y ≡ false) xs i

other_id : (n : NodeId) (x : Node) → (x.id.0 ≡ n.0 → ⊥) → same_node x.id n ≡ false
other_id n x differ = ne_eqb x.id.0 n.0 differ

find_above : (n : NodeId) (a : ℕ) (xs : List Node) → n.0 ≤ a → IsTrue (rises_from a (map (λ x. x.id.0) xs)) → find (λ x. same_node x.id n) xs ≡ None
find_above n a [] le h = refl
find_above n a (x ∷ xs) le h =
    let both = and_parts (nat_lt a x.id.0) (rises_from x.id.0 (map (λ z. z.id.0) xs)) h in
    let below : a < x.id.0 = ltb-true a x.id.0 both.0 in
    let less : n.0 < x.id.0 = omega (arith, le, below) in
    let upto : n.0 ≤ x.id.0 = omega (arith, less) in
    ap (λ b. cond b (Some x) (find (λ z. same_node z.id n) xs)) (other_id n x (λ e. absurd (omega (arith, less, e))))
    ∙ find_above n x.id.0 xs upto both.1

pub find_at_point : (n : NodeId) (xs : List Node) (i : ℕ) → IsTrue (rises (map (λ x. x.id.0) xs)) → ArePointed n xs i →
    find (λ x. same_node x.id n) xs ≡ with_id n (slice_get xs i)
find_at_point n [] i r p = refl
find_at_point n (x ∷ xs) zero r p = by_test (same_node x.id n) refl
  where
    by_test : (b : Bool) → same_node x.id n ≡ b → find (λ z. same_node z.id n) (x ∷ xs) ≡ cond (same_node x.id n) (Some x) None
    by_test true e = ap (λ b. cond b (Some x) (find (λ z. same_node z.id n) xs)) e ∙ sym (ap (λ b. cond b (Some x) None) e)
    by_test false e =
        let least : n.0 ≤ x.id.0 = ltb-false x.id.0 n.0 (p.1 zero x (omega arith) (omega arith)) in
        ap (λ b. cond b (Some x) (find (λ z. same_node z.id n) xs)) e
        ∙ find_above n x.id.0 xs least r
        ∙ sym (ap (λ b. cond b (Some x) None) e)
find_at_point n (x ∷ xs) (suc i) r p =
    let less : x.id.0 < n.0 = ltb-true x.id.0 n.0 (p.0 zero x (omega arith) (omega arith)) in
    ap (λ b. cond b (Some x) (find (λ z. same_node z.id n) xs)) (other_id n x (λ e. absurd (omega (arith, less, e))))
    ∙ find_at_point n xs i (rises-rest x.id.0 (map (λ z. z.id.0) xs) r) (λ k d a b. p.0 (suc k) d (omega (arith, a)) (omega (arith, b)), λ k d a b. p.1 (suc k) d (omega (arith, a)) (omega (arith, b)))

rise_in_steps : (xs : List Node) → IsTrue (rises (map (λ x. x.id.0) xs)) → AllAdjacentBelow (λ x y. x.id.0 ≤ y.id.0) xs (length xs)
rise_in_steps [] r k d lt = absurd (omega (arith, lt))
rise_in_steps (x ∷ []) r k d lt = absurd (omega (arith, lt))
rise_in_steps (x ∷ y ∷ xs) r zero d lt =
    let less : x.id.0 < y.id.0 = ltb-true x.id.0 y.id.0 (and_parts (nat_lt x.id.0 y.id.0) (rises_from y.id.0 (map (λ z. z.id.0) xs)) r).0 in
    omega (arith, less)
rise_in_steps (x ∷ y ∷ xs) r (suc k) d lt =
    let later : (get_or (y ∷ xs) k d).id.0 ≤ (get_or (y ∷ xs) (k + 1) d).id.0 = rise_in_steps (y ∷ xs) (rises-rest x.id.0 (y.id.0 ∷ map (λ z. z.id.0) xs) r) k d (omega (arith, lt)) in
    let same : suc k + 1 ≡ suc (k + 1) = omega arith in
    subst (λ (j : ℕ). (get_or (y ∷ xs) k d).id.0 ≤ (get_or (x ∷ y ∷ xs) j d).id.0) (sym same) later

-- the test of a search by halves parts nodes whose ids rise
pub parts : (n : NodeId) (xs : List Node) → IsTrue (rises (map (λ x. x.id.0) xs)) → IsPartitionedBy (is_below n) xs
parts n xs r = IsPartitionedBy-ltb (λ x. x.id.0) xs n.0 (IsNonDecreasingBy-from_all_adjacent (λ x. x.id.0) xs (rise_in_steps xs r))

with_id-there : (n : NodeId) (o : Option Node) → is_some (with_id n o) ≡ true → with_id n o ≡ o
with_id-there n None h = refl
with_id-there n (Some x) h = by_test (same_node x.id n) h
  where
    by_test : (b : Bool) → is_some (cond b (Some x) None) ≡ true → cond b (Some x) None ≡ Some x
    by_test true h = refl
    by_test false h = absurd (true≢false (sym h))

-- where a node is there, it stands at the point
pub at_point : (n : NodeId) (xs : List Node) (i : ℕ) → IsTrue (rises (map (λ x. x.id.0) xs)) → ArePointed n xs i → IsTrue (is_some (find (λ x. same_node x.id n) xs)) →
    slice_get xs i ≡ find (λ x. same_node x.id n) xs
at_point n xs i r p there =
    let found = find_at_point n xs i r p in
    sym (found ∙ with_id-there n (slice_get xs i) (sym (ap is_some found) ∙ there))

within_length : (xs : List Node) (i : ℕ) → is_some (slice_get xs i) ≡ true → i < length xs
within_length [] i h = absurd (true≢false (sym h))
within_length (x ∷ xs) zero h = omega arith
within_length (x ∷ xs) (suc i) h = let rest : i < length xs = within_length xs i h in omega (arith, rest)

pub point_within : (n : NodeId) (xs : List Node) (i : ℕ) → IsTrue (rises (map (λ x. x.id.0) xs)) → ArePointed n xs i → IsTrue (is_some (find (λ x. same_node x.id n) xs)) → i < length xs
point_within n xs i r p there = within_length xs i (ap is_some (at_point n xs i r p there) ∙ there)
