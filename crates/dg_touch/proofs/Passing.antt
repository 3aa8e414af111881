-- Lists from which only what fails a test is taken: what passes it is still listed and found.
use Rattle.std.proofs.Common.{◌≡◌, Bool, true, false, cond, List, [], ◌∷◌, Some, None, filter, find, Contains, refl, sym, ap, ◌∙◌, true≢false}
use Rattle.dg_laws.proofs.Members.{Contains-head, Contains-tail}

module _ {X : Type 0} (p q : X → Bool) where
  pub filter-passing : (xs : List X) → ((x : X) → Contains xs x → p x ≡ true → q x ≡ true) → filter p (filter q xs) ≡ filter p xs
  filter-passing [] h = refl
  filter-passing (x ∷ xs) h = by_tests (q x) (p x) refl refl (h x (Contains-head x xs)) (filter-passing xs (λ y c. h y (Contains-tail x xs y c)))
    where
      by_tests : (a b : Bool) → q x ≡ a → p x ≡ b → (b ≡ true → a ≡ true) → filter p (filter q xs) ≡ filter p xs →
          filter p (cond a (x ∷ filter q xs) (filter q xs)) ≡ cond b (x ∷ filter p xs) (filter p xs)
      by_tests true b e f k rest =
          ap (λ c. cond c (x ∷ filter p (filter q xs)) (filter p (filter q xs))) f ∙ ap (λ (z : List X). cond b (x ∷ z) z) rest
      by_tests false true e f k rest = absurd (true≢false (sym (k refl)))
      by_tests false false e f k rest = rest

  -- the first that passes is still the first, if it stays
  pub find-passing : (xs : List X) (x : X) → find p xs ≡ Some x → q x ≡ true → find p (filter q xs) ≡ Some x
  find-passing [] x e stay = let no : ⊥ = cc in absurd no
  find-passing (y ∷ ys) x e stay = by_tests (p y) (q y) refl refl e (λ later. find-passing ys x later stay)
    where
      by_tests : (a b : Bool) → p y ≡ a → q y ≡ b → cond a (Some y) (find p ys) ≡ Some x → (find p ys ≡ Some x → find p (filter q ys) ≡ Some x) →
          find p (cond b (y ∷ filter q ys) (filter q ys)) ≡ Some x
      by_tests true true a b e rest = ap (λ c. cond c (Some y) (find p (filter q ys))) a ∙ e
      by_tests true false a b e rest = let is : y ≡ x = cc in absurd (true≢false (sym stay ∙ ap q (sym is) ∙ b))
      by_tests false true a b e rest = ap (λ c. cond c (Some y) (find p (filter q ys))) a ∙ rest e
      by_tests false false a b e rest = rest e

  -- where none passes, none of the rest does
  pub find_none-passing : (xs : List X) → find p xs ≡ None → find p (filter q xs) ≡ None
  find_none-passing [] e = refl
  find_none-passing (y ∷ ys) e = by_tests (p y) (q y) refl e (find_none-passing ys)
    where
      by_tests : (a b : Bool) → p y ≡ a → cond a (Some y) (find p ys) ≡ None → (find p ys ≡ None → find p (filter q ys) ≡ None) →
          find p (cond b (y ∷ filter q ys) (filter q ys)) ≡ None
      by_tests true b a e rest = let no : ⊥ = cc in absurd no
      by_tests false true a e rest = ap (λ c. cond c (Some y) (find p (filter q ys))) a ∙ rest e
      by_tests false false a e rest = rest e
