-- Numbers that rise.
use Rattle.std.proofs.Common.{◌≡◌, ℕ, ◌<◌, ◌≤◌, Bool, true, false, cond, List, [], ◌∷◌, ◌++◌, map, filter, Contains, IsTrue, nat_lt, refl, inl, inr, arith, ltb-true, lt-ltb}
use Rattle.std.proofs.lemmas.Bool.{and_parts, and_from}
use Rattle.std.specs.List.{list_all}
use Rattle.dg_base.specs.Order.{rises_from, rises}
use Rattle.dg_laws.proofs.Members.{Contains-cases, Contains-none}

pub above_first : (a : ℕ) (bs : List ℕ) (b : ℕ) → IsTrue (rises_from a bs) → Contains bs b → a < b
above_first a [] b h c = Contains-none b c
above_first a (x ∷ xs) b h c =
    let both = and_parts (nat_lt a x) (rises_from x xs) h in
    let below : a < x = ltb-true a x both.0 in
    elim (Contains-cases x xs b c) [
      | inl is ↦ omega (arith, is, below)
      | inr rest ↦ let later : x < b = above_first x xs b both.1 rest in omega (arith, below, later)
    ]

pub rises-rest : (a : ℕ) (bs : List ℕ) → IsTrue (rises_from a bs) → IsTrue (rises bs)
rises-rest a [] h = refl
rises-rest a (b ∷ bs) h = (and_parts (nat_lt a b) (rises_from b bs) h).1

-- ---- some of them

rises_from-lower : (a b : ℕ) (bs : List ℕ) → a ≤ b → IsTrue (rises_from b bs) → IsTrue (rises_from a bs)
rises_from-lower a b [] le h = refl
rises_from-lower a b (c ∷ cs) le h =
    let both = and_parts (nat_lt b c) (rises_from c cs) h in
    let lt : b < c = ltb-true b c both.0 in
    and_from _ _ (lt-ltb a c (omega arith)) both.1

rises_from-filter : {X : Type 0} (f : X → ℕ) (p : X → Bool) (a : ℕ) (xs : List X) → IsTrue (rises_from a (map f xs)) → IsTrue (rises_from a (map f (filter p xs)))
rises_from-filter f p a [] h = refl
rises_from-filter {X} f p a (x ∷ xs) h = by_test (p x) (and_parts (nat_lt a (f x)) (rises_from (f x) (map f xs)) h) (rises_from-filter f p (f x) xs)
  where
    by_test : (b : Bool) → (nat_lt a (f x) ≡ true) × (rises_from (f x) (map f xs) ≡ true) →
        (IsTrue (rises_from (f x) (map f xs)) → IsTrue (rises_from (f x) (map f (filter p xs)))) →
        IsTrue (rises_from a (map f (cond b (x ∷ filter p xs) (filter p xs))))
    by_test true both rest = and_from _ _ both.0 (rest both.1)
    by_test false both rest =
        let lt : a < f x = ltb-true a (f x) both.0 in
        rises_from-lower a (f x) (map f (filter p xs)) (omega arith) (rest both.1)

-- what is left of numbers that rise, rises
pub rises-filter : {X : Type 0} (f : X → ℕ) (p : X → Bool) (xs : List X) → IsTrue (rises (map f xs)) → IsTrue (rises (map f (filter p xs)))
rises-filter f p [] h = refl
rises-filter {X} f p (x ∷ xs) h = by_test (p x) (rises_from-filter f p (f x) xs h)
  where
    by_test : (b : Bool) → IsTrue (rises_from (f x) (map f (filter p xs))) → IsTrue (rises (map f (cond b (x ∷ filter p xs) (filter p xs))))
    by_test true rest = rest
    by_test false rest = rises-rest (f x) (map f (filter p xs)) rest

-- ---- one more

rises_from-push : {X : Type 0} (f : X → ℕ) (a : ℕ) (xs : List X) (x : X) → IsTrue (rises_from a (map f xs)) → a < f x → IsTrue (list_all (λ z. nat_lt (f z) (f x)) xs) →
    IsTrue (rises_from a (map f (xs ++ x ∷ [])))
rises_from-push f a [] x h first below = and_from _ _ (lt-ltb a (f x) first) refl
rises_from-push f a (y ∷ ys) x h first below =
    let both = and_parts (nat_lt a (f y)) (rises_from (f y) (map f ys)) h in
    let later = and_parts (nat_lt (f y) (f x)) (list_all (λ z. nat_lt (f z) (f x)) ys) below in
    and_from _ _ both.0 (rises_from-push f (f y) ys x both.1 (ltb-true (f y) (f x) later.0) later.1)

-- numbers that rise, and one more that is above them all
pub rises-push : {X : Type 0} (f : X → ℕ) (xs : List X) (x : X) → IsTrue (rises (map f xs)) → IsTrue (list_all (λ z. nat_lt (f z) (f x)) xs) →
    IsTrue (rises (map f (xs ++ x ∷ [])))
rises-push f [] x h below = refl
rises-push f (y ∷ ys) x h below =
    let later = and_parts (nat_lt (f y) (f x)) (list_all (λ z. nat_lt (f z) (f x)) ys) below in
    rises_from-push f (f y) ys x h (ltb-true (f y) (f x) later.0) later.1
