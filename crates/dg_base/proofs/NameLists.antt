-- Places in a list, and in the list of what its elements are seen as.
use Rattle.std.proofs.Common.{◌≡◌, ℕ, zero, suc, ◌+◌, ◌≤◌, ◌<◌, Bool, true, false, not, cond, ◌||◌, List, [], ◌∷◌, ◌++◌, Some, None, is_some, map, length, take, ltb, refl, sym, ap, ◌∙◌, arith, length-append}
use Rattle.std.proofs.lemmas.Bool.Decides.{nat_tests}
use Rattle.std.proofs.lemmas.List.{map-append}
use Rattle.std.proofs.lemmas.Map.Made.{AllPairs-from_IsDistinct}
use Rattle.std.proofs.lemmas.Slice.Eq.{bytes_eq-Decides}
use Rattle.std.specs.Prelude.{position, ◌≢◌, AllPairs}
use Rattle.std.specs.List.{prefix_len, position_or_len, list_any, IsDistinct, AllByRecursion}
use Rattle.std.specs.Str.{bytes_eq}

cond_true : {A : Type 0} (b : Bool) (x y : A) → b ≡ true → cond b x y ≡ x
cond_true b x y e = ap (λ v. cond v x y) e

cond_false : {A : Type 0} (b : Bool) (x y : A) → b ≡ false → cond b x y ≡ y
cond_false b x y e = ap (λ v. cond v x y) e

test_suc : (n m : ℕ) → ltb (1 + n) (suc m) ≡ ltb n m
test_suc n m = grind (arith, nat_tests)

test_lt : (n m : ℕ) → n < m → ltb n m ≡ true
test_lt n m lt = grind (arith, nat_tests)

test_zero : (m : ℕ) → ltb 0 (suc m) ≡ true
test_zero m = grind (arith, nat_tests)

module _ {X : Type 0} (f : X → List ℕ) where
  length_map : (xs : List X) → length (map f xs) ≡ length xs
  length_map [] = refl
  length_map (x ∷ xs) = ap suc (length_map xs)

  prefix_len_map : (q : List ℕ → Bool) (xs : List X) → prefix_len (λ x. q (f x)) xs ≡ prefix_len q (map f xs)
  prefix_len_map q [] = refl
  prefix_len_map q (x ∷ xs) = ap (λ n. cond (q (f x)) (1 + n) 0) (prefix_len_map q xs)

  pub position_map : (p : List ℕ → Bool) (xs : List X) → position (λ x. p (f x)) xs ≡ position p (map f xs)
  position_map p xs =
      ap (λ n. cond (ltb n (length xs)) (Some n) None) (prefix_len_map (λ t. not (p t)) xs)
      ∙ ap (λ m. cond (ltb (position_or_len p (map f xs)) m) (Some (position_or_len p (map f xs))) None) (sym (length_map xs))

  pub take_map : (n : ℕ) (xs : List X) → map f (take n xs) ≡ take n (map f xs)
  take_map zero xs = refl
  take_map (suc n) [] = refl
  take_map (suc n) (x ∷ xs) = ap (λ ts. f x ∷ ts) (take_map n xs)

  pub map_put : (b : Bool) (xs : List X) (x : X) → map f (cond b xs (xs ++ x ∷ [])) ≡ cond b (map f xs) (map f xs ++ f x ∷ [])
  map_put true xs x = refl
  map_put false xs x = map-append f xs (x ∷ [])

  apart_map : (x : X) (xs : List X) → AllByRecursion (λ y. bytes_eq (f x) (f y) ≡ false) xs → AllByRecursion (λ t. bytes_eq (f x) t ≡ false) (map f xs)
  apart_map x [] a = tt
  apart_map x (y ∷ ys) a = (a.0, apart_map x ys a.1)

  distinct_map : (xs : List X) → IsDistinct (λ x y. bytes_eq (f x) (f y)) xs → IsDistinct bytes_eq (map f xs)
  unfolding IsDistinct
  distinct_map [] d = tt
  distinct_map (x ∷ xs) d = (apart_map x xs d.0, distinct_map xs d.1)

  -- distinct elements are seen as distinct texts
  pub once_map : (xs : List X) → IsDistinct (λ x y. bytes_eq (f x) (f y)) xs → AllPairs (λ a b. a ≢ b) (map f xs)
  once_map xs d = AllPairs-from_IsDistinct bytes_eq-Decides (map f xs) (distinct_map xs d)

module _ {X : Type 0} (p : X → Bool) where
  any_or : (b : Bool) (n m : ℕ) (any : Bool) → ltb n m ≡ any → ltb (cond (not b) (1 + n) 0) (suc m) ≡ b || any
  any_or true n m any e = test_zero m
  any_or false n m any e = test_suc n m ∙ e

  found : (xs : List X) → ltb (position_or_len p xs) (length xs) ≡ list_any p xs
  found [] = refl
  found (x ∷ xs) = any_or (p x) (position_or_len p xs) (length xs) (list_any p xs) (found xs)

  some_if : (b : Bool) (n : ℕ) → is_some (cond b (Some n) None) ≡ b
  some_if true n = refl
  some_if false n = refl

  pub is_found : (xs : List X) → is_some (position p xs) ≡ list_any p xs
  is_found xs = some_if (ltb (position_or_len p xs) (length xs)) (position_or_len p xs) ∙ found xs

  place_le : (xs : List X) → position_or_len p xs ≤ length xs
  place_le [] = omega arith
  place_le (x ∷ xs) = by_test (p x) (position_or_len p xs) (length xs) (place_le xs)
    where
      by_test : (b : Bool) (n m : ℕ) → n ≤ m → cond (not b) (1 + n) 0 ≤ suc m
      by_test true n m le = omega arith
      by_test false n m le = omega arith

  place_put : (xs : List X) (x : X) → p x ≡ true → position_or_len p (xs ++ x ∷ []) ≡ position_or_len p xs
  place_put [] x passes = ap (λ b. cond (not b) (1 + 0) 0) passes
  place_put (y ∷ ys) x passes = ap (λ n. cond (not (p y)) (1 + n) 0) (place_put ys x passes)

  at_end : (xs : List X) (x : X) → p x ≡ true → position p (xs ++ x ∷ []) ≡ Some (position_or_len p xs)
  at_end xs x passes =
      ap (λ n. cond (ltb n (length (xs ++ x ∷ []))) (Some n) None) (place_put xs x passes)
      ∙ cond_true _ _ _ (test_lt (position_or_len p xs) (length (xs ++ x ∷ [])) (omega (arith, place_le xs, length-append xs (x ∷ []))))

  put_at : (any : Bool) (xs : List X) (x : X) → p x ≡ true → list_any p xs ≡ any →
      position p (cond any xs (xs ++ x ∷ [])) ≡ Some (position_or_len p xs)
  put_at true xs x passes is = cond_true _ _ _ (found xs ∙ is)
  put_at false xs x passes is = at_end xs x passes

  -- where what is put stands
  pub position_put : (xs : List X) (x : X) → p x ≡ true →
      position p (cond (list_any p xs) xs (xs ++ x ∷ [])) ≡ Some (position_or_len p xs)
  position_put xs x passes = put_at (list_any p xs) xs x passes refl
