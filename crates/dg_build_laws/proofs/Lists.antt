-- What holds of each member of a list.
use Rattle.std.proofs.Common.{◌≡◌, ℕ, zero, suc, ◌+◌, Bool, true, false, cond, List, [], ◌∷◌, ◌++◌, Option, Some, None, map, filter, filter_map, flat_map, slice_get, refl}
use Rattle.std.proofs.lemmas.Bool.{and_parts, and_from}
use Rattle.std.specs.Option.{IfSome}
use Rattle.std.specs.List.{AllByRecursion, list_all, enumerate_from, cons_option}

-- what holds whether a test passes or not
pub at_test : {X : Type 0} (P : X → Type 0) (b : Bool) (x y : X) → P x → P y → P (cond b x y)
at_test P true x y h k = h
at_test P false x y h k = k

abbrev pub Each : {X : Type 0} → (X → Type 0) → List X → Type 0
Each P xs = AllByRecursion P xs

module _ {X : Type 0} (P : X → Type 0) where
  pub Each-append : (xs ys : List X) → Each P xs → Each P ys → Each P (xs ++ ys)
  Each-append [] ys h k = k
  Each-append (x ∷ xs) ys h k = (h.0, Each-append xs ys h.1 k)

  pub Each-filter : (p : X → Bool) (xs : List X) → Each P xs → Each P (filter p xs)
  Each-filter p [] h = tt
  Each-filter p (x ∷ xs) h =
      let rest = Each-filter p xs h.1 in
      at_test (Each P) (p x) (x ∷ filter p xs) (filter p xs) (h.0, rest) rest

  pub Each-get : (xs : List X) (n : ℕ) → Each P xs → IfSome (slice_get xs n) P
  Each-get [] n h = tt
  Each-get (x ∷ xs) zero h = h.0
  Each-get (x ∷ xs) (suc n) h = Each-get xs n h.1

  pub Each-weaker : (Q : X → Type 0) → ((x : X) → P x → Q x) → (xs : List X) → Each P xs → Each Q xs
  Each-weaker Q f [] h = tt
  Each-weaker Q f (x ∷ xs) h = (f x h.0, Each-weaker Q f xs h.1)

  pub Each-passed : (p : X → Bool) → ((x : X) → p x ≡ true → P x) → (xs : List X) → list_all p xs ≡ true → Each P xs
  Each-passed p f [] h = tt
  Each-passed p f (x ∷ xs) h =
      let both = and_parts (p x) (list_all p xs) h in
      (f x both.0, Each-passed p f xs both.1)

  pub Each-numbered : (n : ℕ) (xs : List X) → Each P xs → Each (λ c. P c.1) (enumerate_from n xs)
  Each-numbered n [] h = tt
  Each-numbered n (x ∷ xs) h = (h.0, Each-numbered (n + 1) xs h.1)

one_more : {X : Type 0} (P : X → Type 0) (o : Option X) (xs : List X) → IfSome o P → Each P xs → Each P (cons_option o xs)
one_more P None xs h k = k
one_more P (Some x) xs h k = (h, k)

module _ {X Y : Type 0} (P : Y → Type 0) where
  pub Each-map : (f : X → Y) (xs : List X) → Each (λ x. P (f x)) xs → Each P (map f xs)
  Each-map f [] h = tt
  Each-map f (x ∷ xs) h = (h.0, Each-map f xs h.1)

  -- of whatever the members are
  pub Each-mapped : (f : X → Y) → ((x : X) → P (f x)) → (xs : List X) → Each P (map f xs)
  Each-mapped f h [] = tt
  Each-mapped f h (x ∷ xs) = (h x, Each-mapped f h xs)

  pub Each-flat_map : (f : X → List Y) (xs : List X) → Each (λ x. Each P (f x)) xs → Each P (flat_map f xs)
  Each-flat_map f [] h = tt
  Each-flat_map f (x ∷ xs) h = Each-append P (f x) (flat_map f xs) h.0 (Each-flat_map f xs h.1)

  pub Each-filter_map : (f : X → Option Y) (xs : List X) → Each (λ x. IfSome (f x) P) xs → Each P (filter_map f xs)
  Each-filter_map f [] h = tt
  Each-filter_map f (x ∷ xs) h = one_more P (f x) (filter_map f xs) h.0 (Each-filter_map f xs h.1)

-- what holds of each at every depth holds of each one at every depth
pub Each-every : {X : Type 0} (Q : ℕ → X → Type 0) (xs : List X) → ((k : ℕ) → Each (Q k) xs) → Each (λ x. (k : ℕ) → Q k x) xs
Each-every Q [] h = tt
Each-every Q (x ∷ xs) h = (λ k. (h k).0, Each-every Q xs (λ k. (h k).1))

pub all_pass : {X : Type 0} (p : X → Bool) (xs : List X) → Each (λ x. p x ≡ true) xs → list_all p xs ≡ true
all_pass p [] h = refl
all_pass p (x ∷ xs) h = and_from (p x) (list_all p xs) h.0 (all_pass p xs h.1)
