-- What belongs to a list, by cases on the list: `Contains` beside the tests, a filter and the like.
use Rattle.std.proofs.Common.{◌≡◌, ℕ, zero, suc, ◌<◌, ◌⊎◌, Bool, true, false, cond, ◌||◌, List, [], ◌∷◌, Option, Some, None, map, filter, filter_map, flat_map, find, length, get_or, Contains, refl, sym, ap, ◌∙◌, subst, inl, inr, arith, true≢false}
use Rattle.std.proofs.lemmas.Bool.{and_parts}
use Rattle.std.proofs.lemmas.List.Elements.{Contains-append_cases, Contains-append_left, Contains-append_right}
use Rattle.std.specs.List.{list_any, list_all, cons_option}

module _ {X : Type 0} where
  pub Contains-head : (x : X) (xs : List X) → Contains (x ∷ xs) x
  Contains-head x xs = (0, omega arith, refl)

  pub Contains-tail : (y : X) (xs : List X) (x : X) → Contains xs x → Contains (y ∷ xs) x
  Contains-tail y xs x h = (suc h.0, omega (arith, h.1), h.2)

  cases_at : (y : X) (xs : List X) (x : X) (k : ℕ) → k < suc (length xs) → get_or (y ∷ xs) k x ≡ x → (y ≡ x) ⊎ Contains xs x
  cases_at y xs x zero l e = inl e
  cases_at y xs x (suc k) l e = inr (k, omega arith, e)

  pub Contains-cases : (y : X) (xs : List X) (x : X) → Contains (y ∷ xs) x → (y ≡ x) ⊎ Contains xs x
  Contains-cases y xs x h = cases_at y xs x h.0 h.1 h.2

  pub Contains-none : {P : Type 0} (x : X) → Contains [] x → P
  Contains-none x h = absurd (omega (arith, h.1))

module _ {X : Type 0} (p : X → Bool) where
  pub find_gives : (xs : List X) (x : X) → find p xs ≡ Some x → Contains xs x × (p x ≡ true)
  find_gives [] x e = let no : ⊥ = cc in absurd no
  find_gives (y ∷ ys) x e = by_test (p y) refl e (find_gives ys x)
    where
      by_test : (b : Bool) → p y ≡ b → cond b (Some y) (find p ys) ≡ Some x → (find p ys ≡ Some x → Contains ys x × (p x ≡ true)) → Contains (y ∷ ys) x × (p x ≡ true)
      by_test true t e later = let is : y ≡ x = cc in (subst (λ (z : X). Contains (y ∷ ys) z) is (Contains-head y ys), subst (λ (z : X). p z ≡ true) is t)
      by_test false t e later = let r = later e in (Contains-tail y ys x r.0, r.1)

  pub find_none : (xs : List X) (x : X) → find p xs ≡ None → Contains xs x → p x ≡ false
  find_none [] x e h = Contains-none x h
  find_none (y ∷ ys) x e h = by_test (p y) refl e (find_none ys x)
    where
      by_test : (b : Bool) → p y ≡ b → cond b (Some y) (find p ys) ≡ None → (find p ys ≡ None → Contains ys x → p x ≡ false) → p x ≡ false
      by_test true t e later = let no : ⊥ = cc in absurd no
      by_test false t e later = elim (Contains-cases y ys x h) [ inl is ↦ subst (λ (z : X). p z ≡ false) is t | inr rest ↦ later e rest ]

  pub list_all_at : (xs : List X) (x : X) → list_all p xs ≡ true → Contains xs x → p x ≡ true
  list_all_at [] x e h = Contains-none x h
  list_all_at (y ∷ ys) x e h =
      let both = and_parts (p y) (list_all p ys) e in
      elim (Contains-cases y ys x h) [ inl is ↦ subst (λ (z : X). p z ≡ true) is both.0 | inr rest ↦ list_all_at ys x both.1 rest ]

  pub list_all_from : (xs : List X) → ((x : X) → Contains xs x → p x ≡ true) → list_all p xs ≡ true
  list_all_from [] h = refl
  list_all_from (y ∷ ys) h =
      let here = h y (Contains-head y ys) in
      let rest = list_all_from ys (λ x c. h x (Contains-tail y ys x c)) in
      rw (here, rest) refl

  pub list_any_from : (xs : List X) (x : X) → Contains xs x → p x ≡ true → list_any p xs ≡ true
  list_any_from [] x h t = Contains-none x h
  list_any_from (y ∷ ys) x h t =
      elim (Contains-cases y ys x h) [
        | inl is ↦ let here : p y ≡ true = subst (λ (z : X). p z ≡ true) (sym is) t in rw here refl
        | inr rest ↦ let r = list_any_from ys x rest t in elim (p y) as (λ b. (b || list_any p ys) ≡ true) [ true ↦ refl | false ↦ r ]
      ]

  pub list_any_gives : (xs : List X) → list_any p xs ≡ true → (x : X) × Contains xs x × (p x ≡ true)
  list_any_gives [] e = absurd (true≢false (sym e))
  list_any_gives (y ∷ ys) e = by_test (p y) refl e (list_any_gives ys)
    where
      by_test : (b : Bool) → p y ≡ b → (b || list_any p ys) ≡ true → (list_any p ys ≡ true → (x : X) × Contains ys x × (p x ≡ true)) → (x : X) × Contains (y ∷ ys) x × (p x ≡ true)
      by_test true t e later = (y, Contains-head y ys, t)
      by_test false t e later = let r = later e in (r.0, Contains-tail y ys r.0 r.1, r.2)

  pub Contains-filter : (xs : List X) (x : X) → Contains xs x → p x ≡ true → Contains (filter p xs) x
  Contains-filter [] x h t = Contains-none x h
  Contains-filter (y ∷ ys) x h t =
      elim (Contains-cases y ys x h) [
        | inl is ↦
            let here : p y ≡ true = subst (λ (z : X). p z ≡ true) (sym is) t in
            rw here (subst (λ (z : X). Contains (y ∷ filter p ys) z) is (Contains-head y (filter p ys)))
        | inr rest ↦
            let r = Contains-filter ys x rest t in
            elim (p y) as (λ b. Contains (cond b (y ∷ filter p ys) (filter p ys)) x) [ true ↦ Contains-tail y (filter p ys) x r | false ↦ r ]
      ]

  pub Contains-from_filter : (xs : List X) (x : X) → Contains (filter p xs) x → Contains xs x × (p x ≡ true)
  Contains-from_filter [] x h = Contains-none x h
  Contains-from_filter (y ∷ ys) x h = by_test (p y) refl h (λ c. let r = Contains-from_filter ys x c in (Contains-tail y ys x r.0, r.1))
    where
      by_test : (b : Bool) → p y ≡ b → Contains (cond b (y ∷ filter p ys) (filter p ys)) x → (Contains (filter p ys) x → Contains (y ∷ ys) x × (p x ≡ true)) →
          Contains (y ∷ ys) x × (p x ≡ true)
      by_test true t c later =
          elim (Contains-cases y (filter p ys) x c) [
            | inl is ↦ (subst (λ (z : X). Contains (y ∷ ys) z) is (Contains-head y ys), subst (λ (z : X). p z ≡ true) is t)
            | inr rest ↦ later rest
          ]
      by_test false t c later = later c

  -- nothing passes
  pub filter_nothing : (xs : List X) → ((x : X) → Contains xs x → p x ≡ false) → filter p xs ≡ []
  filter_nothing [] h = refl
  filter_nothing (y ∷ ys) h =
      let here = h y (Contains-head y ys) in
      rw here (filter_nothing ys (λ x c. h x (Contains-tail y ys x c)))

module _ {X Y : Type 0} where
  pub Contains-map : (f : X → Y) (xs : List X) (x : X) → Contains xs x → Contains (map f xs) (f x)
  Contains-map f [] x h = Contains-none x h
  Contains-map f (y ∷ ys) x h =
      elim (Contains-cases y ys x h) [
        | inl is ↦ subst (λ (z : X). Contains (f y ∷ map f ys) (f z)) is (Contains-head (f y) (map f ys))
        | inr rest ↦ Contains-tail (f y) (map f ys) (f x) (Contains-map f ys x rest)
      ]

  pub Contains-from_map : (f : X → Y) (xs : List X) (y : Y) → Contains (map f xs) y → (x : X) × Contains xs x × (f x ≡ y)
  Contains-from_map f [] y h = Contains-none y h
  Contains-from_map f (x ∷ xs) y h =
      elim (Contains-cases (f x) (map f xs) y h) [
        | inl is ↦ (x, Contains-head x xs, is)
        | inr rest ↦ let r = Contains-from_map f xs y rest in (r.0, Contains-tail x xs r.0 r.1, r.2)
      ]

  pub Contains-flat_map : (f : X → List Y) (xs : List X) (x : X) (y : Y) → Contains xs x → Contains (f x) y → Contains (flat_map f xs) y
  Contains-flat_map f [] x y h here = Contains-none x h
  Contains-flat_map f (z ∷ zs) x y h here =
      elim (Contains-cases z zs x h) [
        | inl is ↦ Contains-append_left (f z) (flat_map f zs) y (subst (λ (w : X). Contains (f w) y) (sym is) here)
        | inr rest ↦ Contains-append_right (f z) (flat_map f zs) y (Contains-flat_map f zs x y rest here)
      ]

  pub Contains-from_flat_map : (f : X → List Y) (xs : List X) (y : Y) → Contains (flat_map f xs) y → (x : X) × Contains xs x × Contains (f x) y
  Contains-from_flat_map f [] y h = Contains-none y h
  Contains-from_flat_map f (x ∷ xs) y h =
      elim (Contains-append_cases (f x) (flat_map f xs) y h) [
        | inl here ↦ (x, Contains-head x xs, here)
        | inr rest ↦ let r = Contains-from_flat_map f xs y rest in (r.0, Contains-tail x xs r.0 r.1, r.2)
      ]

  pub Contains-from_filter_map : (f : X → Option Y) (xs : List X) (y : Y) → Contains (filter_map f xs) y → (x : X) × Contains xs x × (f x ≡ Some y)
  Contains-from_filter_map f [] y h = Contains-none y h
  Contains-from_filter_map f (x ∷ xs) y h =
      by_answer (f x) refl h (λ c. let r = Contains-from_filter_map f xs y c in (r.0, Contains-tail x xs r.0 r.1, r.2))
    where
      by_answer : (o : Option Y) → f x ≡ o → Contains (cons_option o (filter_map f xs)) y →
          (Contains (filter_map f xs) y → (z : X) × Contains (x ∷ xs) z × (f z ≡ Some y)) → (z : X) × Contains (x ∷ xs) z × (f z ≡ Some y)
      by_answer None e c later = later c
      by_answer (Some w) e c later =
          elim (Contains-cases w (filter_map f xs) y c) [
            | inl is ↦ (x, Contains-head x xs, e ∙ ap (λ (z : Y). Some z) is)
            | inr rest ↦ later rest
          ]

  -- functions that agree on each member
  pub map_same : (f h : X → Y) (xs : List X) → ((x : X) → Contains xs x → f x ≡ h x) → map f xs ≡ map h xs
  map_same f h [] agree = refl
  map_same f h (x ∷ xs) agree =
      let here = agree x (Contains-head x xs) in
      let rest = map_same f h xs (λ z c. agree z (Contains-tail x xs z c)) in
      ap (λ (y : Y). y ∷ map f xs) here ∙ ap (λ (ys : List Y). h x ∷ ys) rest
