-- What a filter leaves: how much, and when two leave the same.
use Rattle.std.proofs.Common.{◌≡◌, suc, ◌<◌, ◌≤◌, Bool, true, false, not, cond, List, [], ◌∷◌, filter, length, Contains, IsTrue, refl, sym, ap, ◌∙◌, inl, inr, arith, true≢false}
use Rattle.std.proofs.lemmas.Bool.{cases_Bool}
use Rattle.std.specs.List.{list_any, list_all}
use Rattle.dg_laws.proofs.Members.{Contains-cases, Contains-none, list_all_at, list_all_from, list_any_from, list_any_gives, Contains-filter, Contains-from_filter}

-- what a stronger test leaves out, a weaker one leaves out
pub contrary : (a b : Bool) → (a ≡ true → b ≡ true) → not b ≡ true → not a ≡ true
contrary true true h e = e
contrary true false h e = absurd (true≢false (sym (h refl)))
contrary false b h e = refl

module _ {X : Type 0} where
  pub length_filter_le : (p : X → Bool) (xs : List X) → length (filter p xs) ≤ length xs
  length_filter_le p [] = omega arith
  length_filter_le p (x ∷ xs) =
      let rest = length_filter_le p xs in
      elim (p x) as (λ b. length (cond b (x ∷ filter p xs) (filter p xs)) ≤ suc (length xs)) [ true ↦ omega (arith, rest) | false ↦ omega (arith, rest) ]

  pub filter_weaker : (p q : X → Bool) → ((x : X) → p x ≡ true → q x ≡ true) → (xs : List X) → length (filter p xs) ≤ length (filter q xs)
  filter_weaker p q h [] = omega arith
  filter_weaker p q h (x ∷ xs) = by_tests (p x) (q x) (h x) (filter_weaker p q h xs)
    where
      by_tests : (a b : Bool) → (a ≡ true → b ≡ true) → length (filter p xs) ≤ length (filter q xs) →
          length (cond a (x ∷ filter p xs) (filter p xs)) ≤ length (cond b (x ∷ filter q xs) (filter q xs))
      by_tests true true h rest = omega (arith, rest)
      by_tests true false h rest = absurd (true≢false (sym (h refl)))
      by_tests false true h rest = omega (arith, rest)
      by_tests false false h rest = rest

  -- fewer pass where one of those that pass the other test fails
  pub filter_fewer : (p q : X → Bool) → ((x : X) → p x ≡ true → q x ≡ true) → (xs : List X) (x : X) → Contains xs x → p x ≡ false → q x ≡ true →
      length (filter p xs) < length (filter q xs)
  filter_fewer p q h [] x c below above = Contains-none x c
  filter_fewer p q h (y ∷ ys) x c below above =
      elim (Contains-cases y ys x c) [
        | inl is ↦
            let fails : p y ≡ false = ap p is ∙ below in
            let passes : q y ≡ true = ap q is ∙ above in
            let rest = filter_weaker p q h ys in
            rw (fails, passes) (omega (arith, rest))
        | inr later ↦ by_tests (p y) (q y) (h y) (filter_fewer p q h ys x later below above)
      ]
    where
      by_tests : (a b : Bool) → (a ≡ true → b ≡ true) → length (filter p ys) < length (filter q ys) →
          length (cond a (y ∷ filter p ys) (filter p ys)) < length (cond b (y ∷ filter q ys) (filter q ys))
      by_tests true true h rest = omega (arith, rest)
      by_tests true false h rest = absurd (true≢false (sym (h refl)))
      by_tests false true h rest = omega (arith, rest)
      by_tests false false h rest = rest

  pub filter_some : (p : X → Bool) (xs : List X) (x : X) → Contains xs x → p x ≡ true → 0 < length (filter p xs)
  filter_some p xs x c passes = let h = Contains-filter p xs x c passes in omega (arith, h.1)

  pub filter_shorter : (q p : X → Bool) (xs : List X) → length (filter q (filter p xs)) ≤ length (filter q xs)
  filter_shorter q p [] = omega arith
  filter_shorter q p (x ∷ xs) = by_tests (p x) (q x) refl (filter_shorter q p xs)
    where
      by_tests : (a b : Bool) → q x ≡ b → length (filter q (filter p xs)) ≤ length (filter q xs) →
          length (filter q (cond a (x ∷ filter p xs) (filter p xs))) ≤ length (cond b (x ∷ filter q xs) (filter q xs))
      by_tests true true e rest =
          let now : length (filter q (x ∷ filter p xs)) ≡ suc (length (filter q (filter p xs))) = ap (λ b. length (cond b (x ∷ filter q (filter p xs)) (filter q (filter p xs)))) e in
          omega (arith, now, rest)
      by_tests true false e rest =
          let now : length (filter q (x ∷ filter p xs)) ≡ length (filter q (filter p xs)) = ap (λ b. length (cond b (x ∷ filter q (filter p xs)) (filter q (filter p xs)))) e in
          omega (arith, now, rest)
      by_tests false true e rest = omega (arith, rest)
      by_tests false false e rest = rest

  pub any-filter : (q p : X → Bool) (xs : List X) → list_any q xs ≡ false → list_any q (filter p xs) ≡ false
  any-filter q p xs h =
      elim (cases_Bool (list_any q (filter p xs))) [
        | inl some ↦
            let x = list_any_gives q (filter p xs) some in
            absurd (true≢false (sym (list_any_from q xs x.0 (Contains-from_filter p xs x.0 x.1).0 x.2) ∙ h))
        | inr none ↦ none
      ]

  pub list_all-filter : (q p : X → Bool) (xs : List X) → IsTrue (list_all q xs) → IsTrue (list_all q (filter p xs))
  list_all-filter q p xs h = list_all_from q (filter p xs) (λ x c. list_all_at q xs x h (Contains-from_filter p xs x c).0)
