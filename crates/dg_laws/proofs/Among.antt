-- What is among the members of a list by a test that tells equal from different, as the tests of nodes,
-- labels and endpoints do.
use Rattle.std.proofs.Common.{◌≡◌, ◌⊎◌, Bool, true, false, cond, ◌&&◌, ◌||◌, List, [], ◌∷◌, ◌++◌, filter, Contains, IsTrue, refl, sym, ap, ◌∙◌, subst, inl, inr}
use Rattle.std.proofs.Math.Bool.{or-false}
use Rattle.std.proofs.lemmas.Bool.{or_cases, or_left, or_right, and_right}
use Rattle.std.proofs.lemmas.List.Folds.{list_any-append}
use Rattle.std.specs.List.{list_any}
use Rattle.dg_laws.proofs.Members.{list_any_from, list_any_gives}

-- what the test passes is equal, and each is the same as itself
pub record Tells {X : Type 0} (same : X → X → Bool) : Type 0 where
  pub is : (a b : X) → same a b ≡ true → a ≡ b
  pub itself : (a : X) → same a a ≡ true

abbrev pub is_among : {X : Type 0} → (X → X → Bool) → List X → X → Bool
is_among same xs x = list_any (same x) xs

pub same_answer : (a b : Bool) → (a ≡ true → b ≡ true) → (b ≡ true → a ≡ true) → a ≡ b
same_answer true b h k = sym (h refl)
same_answer false true h k = k refl
same_answer false false h k = refl

module _ {X : Type 0} {same : X → X → Bool} (s : Tells same) where
  pub same-swap : (a b : X) → same a b ≡ same b a
  same-swap a b =
      same_answer (same a b) (same b a)
      (λ h. subst (λ (z : X). same b z ≡ true) (sym (s.is a b h)) (s.itself b))
      (λ h. subst (λ (z : X). same a z ≡ true) (sym (s.is b a h)) (s.itself a))

  pub among_from_Contains : (xs : List X) (x : X) → Contains xs x → is_among same xs x ≡ true
  among_from_Contains xs x c = list_any_from (same x) xs x c (s.itself x)

  pub Contains_from_among : (xs : List X) (x : X) → is_among same xs x ≡ true → Contains xs x
  Contains_from_among xs x h =
      let y = list_any_gives (same x) xs h in
      subst (Contains xs) (sym (s.is x y.0 y.2)) y.1

  -- lists with the same members in other words
  pub among-same : (as_ bs : List X) → ((x : X) → Contains as_ x → Contains bs x) → ((x : X) → Contains bs x → Contains as_ x) →
      (x : X) → is_among same as_ x ≡ is_among same bs x
  among-same as_ bs h k x =
      same_answer (is_among same as_ x) (is_among same bs x)
      (λ c. among_from_Contains bs x (h x (Contains_from_among as_ x c)))
      (λ c. among_from_Contains as_ x (k x (Contains_from_among bs x c)))

  pub among-append : (xs ys : List X) (x : X) → is_among same (xs ++ ys) x ≡ (is_among same xs x || is_among same ys x)
  among-append xs ys x = list_any-append (same x) xs ys

  pub among-push : (xs : List X) (y x : X) → is_among same (xs ++ y ∷ []) x ≡ (is_among same xs x || same x y)
  among-push xs y x = among-append xs (y ∷ []) x ∙ ap (λ b. is_among same xs x || b) (or-false (same x y))

  pub among-more : (xs ys : List X) (x : X) → IsTrue (is_among same xs x) → IsTrue (is_among same (xs ++ ys) x)
  among-more xs ys x h = among-append xs ys x ∙ or_left _ (is_among same ys x) h

  pub among-last : (xs : List X) (x : X) → IsTrue (is_among same (xs ++ x ∷ []) x)
  among-last xs x = among-push xs x x ∙ or_right (is_among same xs x) _ (s.itself x)

  -- what is among these with one more is that one or was there
  pub among_push-cases : (xs : List X) (y x : X) → IsTrue (is_among same (xs ++ y ∷ []) x) → IsTrue (is_among same xs x) ⊎ (x ≡ y)
  among_push-cases xs y x h =
      elim (or_cases (is_among same xs x) (same x y) (sym (among-push xs y x) ∙ h)) [
        | inl before ↦ inl before
        | inr last ↦ inr (s.is x y last)
      ]

  pub among_one-is : (y x : X) → IsTrue (is_among same (y ∷ []) x) → x ≡ y
  among_one-is y x h = s.is x y (sym (or-false (same x y)) ∙ h)

  pub among-filter : (q : X → Bool) (xs : List X) (x : X) → is_among same (filter q xs) x ≡ (is_among same xs x && q x)
  among-filter q [] x = refl
  among-filter q (y ∷ ys) x = by_tests (q y) (same x y) refl refl (among-filter q ys x)
    where
      by_tests : (a b : Bool) → q y ≡ a → same x y ≡ b → is_among same (filter q ys) x ≡ (is_among same ys x && q x) →
          is_among same (cond a (y ∷ filter q ys) (filter q ys)) x ≡ ((b || is_among same ys x) && q x)
      by_tests true true e f rest =
          let passes : q x ≡ true = ap q (s.is x y f) ∙ e in
          rw (f, passes) refl
      by_tests true false e f rest = rw f rest
      by_tests false true e f rest =
          let fails : q x ≡ false = ap q (s.is x y f) ∙ e in
          rest ∙ and_right (is_among same ys x) (q x) fails ∙ sym fails
      by_tests false false e f rest = rest
