-- A stable sort of a list is the list that placing its elements one after the other gives.
use Rattle.std.proofs.Common.{◌≡◌, ◌≢◌, ℕ, suc, ◌+◌, ◌<◌, ◌≤◌, Bool, true, false, not, ◌&&◌, cond, List, [], ◌∷◌, ◌++◌, map, fold, filter, length, refl, sym, ap, subst, ◌∙◌, arith, append_assoc}
use Rattle.std.specs.List.{AllByRecursion, slice_index_or}
use Rattle.std.specs.List.Sorted.{ties, IsSortedBy, IsStableBy, IsSortedByClosure, IsStableByClosure}
use Rattle.std.specs.declared.cmp.Ordering.{Ordering}
use Rattle.std.specs.Ordering.{is_lt}
use Rattle.std.specs.Cmp.{IsStrictWeakOrder, IsTotalOrder}
use Rattle.std.specs.Fn.{Called, ComparesAs}
use denote.Ref.{Bor}
use denote.Param.Members.{Mut}
use Rattle.std.proofs.lemmas.Fn.{always_returns_same}
use Rattle.std.proofs.lemmas.List.{append-nil}
use Rattle.std.proofs.lemmas.List.Elements.{recursion_from_All}
use Rattle.std.proofs.lemmas.List.Sorted.{sorted_far, ranks_by}
use Rattle.dg_sources.specs.Sorting.{place, sorted}

true_false : {A : Type 0} (b : Bool) → b ≡ true → b ≡ false → A
true_false true p q = let no : true ≡ false = q in cc
true_false false p q = let no : false ≡ true = p in cc

abbrev head_of : {X : Type 0} → X → List X → X
head_of d [] = d
head_of d (x ∷ xs) = x

abbrev tail_of : {X : Type 0} → List X → List X
tail_of [] = []
tail_of (x ∷ xs) = xs

module _ {X : Type 0} (lt : X → X → Bool) (o : IsStrictWeakOrder lt) where
  -- none of a list comes before it
  abbrev Above : X → List X → Type 0
  Above x ys = AllByRecursion (λ y. lt y x ≡ false) ys

  abbrev Rises : List X → Type 0
  Rises [] = Unit {0}
  Rises (x ∷ xs) = Above x xs × Rises xs

  abbrev same : X → List X → List X
  same x ys = filter (ties lt x) ys

  irreflexive : (x : X) → lt x x ≡ false
  irreflexive x = by (lt x x) refl
    where
      by : (t : Bool) → lt x x ≡ t → lt x x ≡ false
      by true e = o.one_way x x e
      by false e = e

  above-further : (x y : X) (ws : List X) → lt y x ≡ false → Above y ws → Above x ws
  above-further x y [] e a = tt
  above-further x y (w ∷ ws) e a = (o.chain w y x a.0 e, above-further x y ws e a.1)

  above-place : (x z : X) (ys : List X) → Above x ys → lt z x ≡ false → Above x (place lt ys z)
  above-place x z [] a e = (e, tt)
  above-place x z (y ∷ ys) a e = by (lt z y) (above-place x z ys a.1 e)
    where
      by : (t : Bool) → Above x (place lt ys z) → Above x (cond t (z ∷ y ∷ ys) (y ∷ place lt ys z))
      by true rest = (e, a)
      by false rest = (a.0, rest)

  rises-place : (ys : List X) (z : X) → Rises ys → Rises (place lt ys z)
  rises-place [] z r = (tt, tt)
  rises-place (y ∷ ys) z r = by (lt z y) refl (rises-place ys z r.1)
    where
      by : (t : Bool) → lt z y ≡ t → Rises (place lt ys z) → Rises (cond t (z ∷ y ∷ ys) (y ∷ place lt ys z))
      by true e rest = ((o.one_way z y e, above-further z y ys (o.one_way z y e) r.0), r)
      by false e rest = (above-place y z ys r.0 e, rest)

  rises-fold : (done xs : List X) → Rises done → Rises (fold (place lt) done xs)
  rises-fold done [] r = r
  rises-fold done (x ∷ xs) r = rises-fold (place lt done x) xs (rises-place done x r)

  -- nothing that comes behind one ties with one before it
  apart : (x y w : X) → lt x y ≡ true → lt w y ≡ false → ties lt x w ≡ false
  apart x y w e f = by (lt x w) refl
    where
      by : (t : Bool) → lt x w ≡ t → not t && not (lt w x) ≡ false
      by true g = refl
      by false g = true_false (lt x y) e (o.chain x w y g f)

  none-behind : (x y : X) (ws : List X) → lt x y ≡ true → Above y ws → same x ws ≡ []
  none-behind x y [] e a = refl
  none-behind x y (w ∷ ws) e a =
      ap (λ t. cond t (w ∷ same x ws) (same x ws)) (apart x y w e a.0) ∙ none-behind x y ws e a.1

  -- what ties with one comes before what that comes before
  tie-before : (x z y : X) → ties lt x z ≡ true → lt z y ≡ true → lt x y ≡ true
  tie-before x z y e f = by (lt x y) (lt z x) refl refl
    where
      left : (s t : Bool) → s && not t ≡ true → t ≡ false
      left true true p = let no : false ≡ true = p in cc
      left true false p = refl
      left false t p = let no : false ≡ true = p in cc

      by : (t u : Bool) → lt x y ≡ t → lt z x ≡ u → t ≡ true
      by true u g h = refl
      by false u g h = true_false (lt z y) f (o.chain z x y (left (not (lt x z)) (lt z x) e) g)

  same-place : (x z : X) (ys : List X) → Rises ys → same x (place lt ys z) ≡ same x ys ++ same x (z ∷ [])
  same-place x z [] r = refl
  same-place x z (y ∷ ys) r = by (lt z y) refl (same-place x z ys r.1)
    where
      first : (t : Bool) → ties lt x z ≡ t → lt z y ≡ true → cond t (z ∷ same x (y ∷ ys)) (same x (y ∷ ys)) ≡ same x (y ∷ ys) ++ cond t (z ∷ []) []
      first true e f =
          let none : same x (y ∷ ys) ≡ [] = none-behind x y (y ∷ ys) (tie-before x z y e f) (irreflexive y, r.0) in
          ap (λ l. z ∷ l) none ∙ sym (ap (λ l. l ++ z ∷ []) none)
      first false e f = sym (append-nil (same x (y ∷ ys)))

      later : (t : Bool) → same x (place lt ys z) ≡ same x ys ++ same x (z ∷ []) → cond t (y ∷ same x (place lt ys z)) (same x (place lt ys z)) ≡ cond t (y ∷ same x ys) (same x ys) ++ same x (z ∷ [])
      later true e = ap (λ l. y ∷ l) e
      later false e = e

      by : (t : Bool) → lt z y ≡ t → same x (place lt ys z) ≡ same x ys ++ same x (z ∷ []) → same x (cond t (z ∷ y ∷ ys) (y ∷ place lt ys z)) ≡ same x (y ∷ ys) ++ same x (z ∷ [])
      by true e rest = first (ties lt x z) refl e
      by false e rest = later (ties lt x y) rest

  same-fold : (x : X) (done xs : List X) → Rises done → same x (fold (place lt) done xs) ≡ same x done ++ same x xs
  same-fold x done [] r = sym (append-nil (same x done))
  same-fold x done (z ∷ zs) r =
      same-fold x (place lt done z) zs (rises-place done z r)
      ∙ ap (λ l. l ++ same x zs) (same-place x z done r)
      ∙ append_assoc (same x done) (same x (z ∷ [])) (same x zs)
      ∙ ap (λ l. same x done ++ l) (joins (ties lt x z))
    where
      joins : (t : Bool) → cond t (z ∷ []) [] ++ same x zs ≡ cond t (z ∷ same x zs) (same x zs)
      joins true = refl
      joins false = refl

  tie-itself : (x : X) → ties lt x x ≡ true
  tie-itself x = ap (λ t. not t && not t) (irreflexive x)

  same-head : (x : X) (xs : List X) → same x (x ∷ xs) ≡ x ∷ same x xs
  same-head x xs = ap (λ t. cond t (x ∷ same x xs) (same x xs)) (tie-itself x)

  -- two rising lists with the same ties are one
  alike : (ys zs : List X) → Rises ys → Rises zs → ((x : X) → same x ys ≡ same x zs) → ys ≡ zs
  alike [] [] r s e = refl
  alike [] (z ∷ zs) r s e = let no : [] ≡ z ∷ same z zs = e z ∙ same-head z zs in cc
  alike (y ∷ ys) [] r s e = let no : [] ≡ y ∷ same y ys = sym (e y) ∙ same-head y ys in cc
  alike (y ∷ ys) (z ∷ zs) r s e =
      let forth : lt y z ≡ false = not-before y z zs ys (irreflexive z, s.0) (e y) in
      let back : lt z y ≡ false = not-before z y ys zs (irreflexive y, r.0) (sym (e z)) in
      let tie : ties lt y z ≡ true = ap (λ t. not t && not (lt z y)) forth ∙ ap (λ t. not t) back in
      let heads : y ∷ same y ys ≡ z ∷ same y zs = sym (same-head y ys) ∙ e y ∙ ap (λ t. cond t (z ∷ same y zs) (same y zs)) tie in
      let one : y ≡ z = ap (head_of y) heads in
      let tails : (x : X) → same x ys ≡ same x zs = λ x. tail x one (ties lt x y) refl (e x) in
      ap (λ x. x ∷ ys) one ∙ ap (λ l. z ∷ l) (alike ys zs r.1 s.1 tails)
    where
      not-before : (a b : X) (bs cs : List X) → Above b (b ∷ bs) → same a (a ∷ cs) ≡ same a (b ∷ bs) → lt a b ≡ false
      not-before a b bs cs above e = by (lt a b) refl
        where
          by : (t : Bool) → lt a b ≡ t → t ≡ false
          by true f = let no : [] ≡ a ∷ same a cs = sym (none-behind a b (b ∷ bs) f above) ∙ sym e ∙ same-head a cs in cc
          by false f = refl

      tail : (x : X) → y ≡ z → (t : Bool) → ties lt x y ≡ t → same x (y ∷ ys) ≡ same x (z ∷ zs) → same x ys ≡ same x zs
      tail x one true f e =
          ap tail_of (sym (ap (λ t. cond t (y ∷ same x ys) (same x ys)) f) ∙ e ∙ ap (λ t. cond t (z ∷ same x zs) (same x zs)) (ap (ties lt x) (sym one) ∙ f))
      tail x one false f e =
          sym (ap (λ t. cond t (y ∷ same x ys) (same x ys)) f) ∙ e ∙ ap (λ t. cond t (z ∷ same x zs) (same x zs)) (ap (ties lt x) (sym one) ∙ f)

  rises-sorted : (xs : List X) → IsSortedBy lt xs → Rises xs
  rises-sorted [] up = tt
  rises-sorted (x ∷ xs) up = (
    recursion_from_All (λ y. lt y x ≡ false) xs (λ k d l. sorted_far lt o (x ∷ xs) up 0 (suc k) d (omega arith) (omega (arith, l))),
    rises-sorted xs (λ k d l h.
        let next : suc k + 1 ≡ suc (k + 1) = omega arith in
        subst (λ (j : ℕ). lt (slice_index_or (x ∷ xs) j d) (slice_index_or xs k d) ≡ false) next (up (suc k) d (omega arith) (omega (arith, h)))),
  )

  pub stable-sorted : (xs ys : List X) → IsSortedBy lt ys → IsStableBy lt xs ys → ys ≡ sorted lt xs
  stable-sorted xs ys up stable =
      alike ys (sorted lt xs) (rises-sorted ys up) (rises-fold [] xs tt) (λ x. stable x ∙ sym (same-fold x [] xs tt))

-- sorting by a key
module _ {X K : Type 0} (key : X → K) (lt : K → K → Bool) where
  abbrev keyed : X → X → Bool
  keyed x y = lt (key x) (key y)

  map-place : (ys : List X) (z : X) → map key (place keyed ys z) ≡ place lt (map key ys) (key z)
  map-place [] z = refl
  map-place (y ∷ ys) z = by (keyed z y) (map-place ys z)
    where
      by : (t : Bool) → map key (place keyed ys z) ≡ place lt (map key ys) (key z) → map key (cond t (z ∷ y ∷ ys) (y ∷ place keyed ys z)) ≡ cond t (key z ∷ key y ∷ map key ys) (key y ∷ place lt (map key ys) (key z))
      by true e = refl
      by false e = ap (λ l. key y ∷ l) e

  map-fold : (done xs : List X) → map key (fold (place keyed) done xs) ≡ fold (place lt) (map key done) (map key xs)
  map-fold done [] = refl
  map-fold done (x ∷ xs) =
      map-fold (place keyed done x) xs ∙ ap (λ l. fold (place lt) l (map key xs)) (map-place done x)

  pub map-sorted : (xs : List X) → map key (sorted keyed xs) ≡ sorted lt (map key xs)
  map-sorted xs = map-fold [] xs

-- what `sort_by` leaves, where each call answers by an order
pub stable-sorted-by : {X F : Type 0} {g : Mut F (Bor X × (Bor X × Unit {0})) Ordering} {f : F} (cmp : X → X → Ordering) → IsTotalOrder cmp → (xs ys : List X) →
    IsSortedByClosure g f ys → IsStableByClosure g f xs ys →
    ((a : Bor X × (Bor X × Unit {0})) (r : Ordering) (h : F) → Called g f a r h → (r ≡ cmp a.0.now a.1.0.now) × (h ≡ f)) → ys ≡ sorted (λ x y. is_lt (cmp x y)) xs
stable-sorted-by {X} {F} {g} {f} cmp o xs ys up stable each =
    let lt : X → X → Bool = λ x y. is_lt (cmp x y) in
    let order : IsStrictWeakOrder lt = ranks_by o (λ (x : X). x) in
    let answers : ComparesAs g lt f = always_returns_same g (λ a r. is_lt r ≡ is_lt (cmp a.0.now a.1.0.now)) f (λ a r h k. (ap is_lt (each a r h k).0, (each a r h k).1)) in
    stable-sorted lt order xs ys (up lt order answers) (stable lt order answers)
