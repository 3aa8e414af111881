-- Putting the members of a list one after another into a list in which each stands once leaves their first
-- appearances.
use Rattle.std.proofs.Common.{◌≡◌, ◌∙◌, Bool, true, false, not, cond, ◌&&◌, ◌||◌, List, [], ◌∷◌, ◌++◌, fold, filter, refl, sym, ap, append_assoc}
use Rattle.std.proofs.lemmas.List.{append-nil}
use Rattle.std.specs.List.{list_any}
use Rattle.dg_laws.proofs.Among.{Tells, is_among, same-swap, among-push}
use Rattle.dg_build.specs.Firsts.{firsts}

-- two tests one after another are one
filter_twice : {X : Type 0} (p q r : X → Bool) → ((x : X) → r x ≡ (q x && p x)) → (xs : List X) → filter p (filter q xs) ≡ filter r xs
filter_twice p q r same [] = refl
filter_twice {X} p q r same (x ∷ xs) = by_test (q x) (p x) (r x) refl (same x) (filter_twice p q r same xs)
  where
    by_test : (a b c : Bool) → p x ≡ b → c ≡ (a && b) → filter p (filter q xs) ≡ filter r xs → filter p (cond a (x ∷ filter q xs) (filter q xs)) ≡ cond c (x ∷ filter r xs) (filter r xs)
    by_test true b c is e h =
        ap (λ z. cond z (x ∷ filter p (filter q xs)) (filter p (filter q xs))) (is ∙ sym e)
        ∙ ap (λ (z : List X). cond c (x ∷ z) z) h
    by_test false b c is e h = h ∙ sym (ap (λ z. cond z (x ∷ filter r xs) (filter r xs)) e)

filter_all : {X : Type 0} (p : X → Bool) → ((x : X) → p x ≡ true) → (xs : List X) → filter p xs ≡ xs
filter_all p all [] = refl
filter_all {X} p all (x ∷ xs) = ap (λ b. cond b (x ∷ filter p xs) (filter p xs)) (all x) ∙ ap (λ (z : List X). x ∷ z) (filter_all p all xs)

not_or : (a b : Bool) → not (a || b) ≡ (not b && not a)
not_or true true = refl
not_or true false = refl
not_or false true = refl
not_or false false = refl

-- a list with a member more, the last one, unless it is there
abbrev pub put : {X : Type 0} → (X → X → Bool) → List X → X → List X
put same xs x = cond (list_any (same x) xs) xs (xs ++ x ∷ [])

module _ {X : Type 0} (same : X → X → Bool) (tells : Tells same) where
  -- those that aren't there
  abbrev new_to : List X → X → Bool
  new_to there x = not (is_among same there x)

  there_already : (there : List X) (n : X) → is_among same there n ≡ true → (x : X) → new_to there x ≡ (not (same n x) && new_to there x)
  there_already there n is x = by_test (same n x) refl
    where
      by_test : (b : Bool) → same n x ≡ b → new_to there x ≡ (not b && new_to there x)
      by_test true e = ap not (sym (ap (is_among same there) (tells.is n x e)) ∙ is)
      by_test false e = refl

  there_now : (there : List X) (n x : X) → new_to (there ++ n ∷ []) x ≡ (not (same n x) && new_to there x)
  there_now there n x =
      ap not (among-push tells there n x)
      ∙ not_or (is_among same there x) (same x n)
      ∙ ap (λ b. not b && new_to there x) (same-swap tells x n)

  puts : (there xs : List X) → fold (put same) there xs ≡ there ++ filter (new_to there) (firsts same xs)
  puts there [] = sym (append-nil there)
  puts there (n ∷ xs) = by_test (is_among same there n) refl (puts there xs) (puts (there ++ n ∷ []) xs)
    where
      rest : List X
      rest = filter (λ m. not (same n m)) (firsts same xs)

      by_test : (b : Bool) → is_among same there n ≡ b → fold (put same) there xs ≡ there ++ filter (new_to there) (firsts same xs) →
          fold (put same) (there ++ n ∷ []) xs ≡ (there ++ n ∷ []) ++ filter (new_to (there ++ n ∷ [])) (firsts same xs) →
          fold (put same) (cond b there (there ++ n ∷ [])) xs ≡ there ++ cond (not b) (n ∷ filter (new_to there) rest) (filter (new_to there) rest)
      by_test true is old new =
          old ∙ sym (ap (λ (z : List X). there ++ z) (filter_twice (new_to there) (λ m. not (same n m)) (new_to there) (there_already there n is) (firsts same xs)))
      by_test false is old new =
          new
          ∙ append_assoc there (n ∷ []) (filter (new_to (there ++ n ∷ [])) (firsts same xs))
          ∙ sym (ap (λ (z : List X). there ++ n ∷ z) (filter_twice (new_to there) (λ m. not (same n m)) (new_to (there ++ n ∷ [])) (there_now there n) (firsts same xs)))

  pub puts-firsts : (xs : List X) → fold (put same) [] xs ≡ firsts same xs
  puts-firsts xs = puts [] xs ∙ filter_all (new_to []) (λ x. refl) (firsts same xs)
