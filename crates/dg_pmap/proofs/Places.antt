-- What a chunk's pairs give, and what a change of them gives, at the place of a key.
use Rattle.std.proofs.Common.{◌≡◌, ℕ, zero, suc, ◌+◌, ◌<◌, ◌≤◌, Bool, true, false, cond, Option, Some, None, List, [], ◌∷◌, ◌++◌, length, get_or, set, insert, remove, refl, sym, ap, ◌∙◌, arith, true≢false}
use Rattle.std.specs.Cmp.{IsTotalOrder}
use Rattle.std.specs.List.{AllByRecursion, slice_get}
use Rattle.std.specs.List.Sorted.{IsStrictlySortedBy}
use Rattle.std.specs.Map.{keys_of, lookup, remove_entry}
use Rattle.std.specs.BTreeMap.{is_at, insert_entry}
use Rattle.std.specs.Option.{is_some}
use Rattle.std.specs.Ordering.{is_lt, is_gt, is_eq, match_ordering}
use Rattle.std.specs.declared.cmp.Ordering.{Ordering}
use Rattle.std.specs.declared.cmp.Ordering.TheVariants.{Less, Equal, Greater}
use Rattle.dg_pmap.specs.Places.{AboveFirst, AnswersAt, IsFoundAt, IsGapAt, count_below, first_at_least}
use Rattle.dg_pmap.proofs.Orders.{by_ordering, above_lower, below_higher}

module _ {K X : Type 0} (cmp : K → K → Ordering) (q : K) where
  pub answers_at : (es : List (K × X)) (i : ℕ) (d : K × X) (r : Ordering) → i < length es → cmp q (get_or es i d).0 ≡ r → AnswersAt cmp q es i r
  answers_at [] i d r l h = tt
  answers_at (e ∷ es) zero d r l h = h
  answers_at (e ∷ es) (suc i) d r l h = answers_at es i d r (omega arith) h

  pub answers_past : (es : List (K × X)) (i : ℕ) (r : Ordering) → length es ≤ i → AnswersAt cmp q es i r
  answers_past [] i r l = tt
  answers_past (e ∷ es) zero r l = absurd (omega arith)
  answers_past (e ∷ es) (suc i) r l = answers_past es i r (omega arith)

  less_at : (k : K) (es : List (K × X)) (i : ℕ) (d : K × X) → AllByRecursion (λ y. cmp k y ≡ Less) (keys_of es) → i < length es → cmp k (get_or es i d).0 ≡ Less
  less_at k [] i d a l = absurd (omega arith)
  less_at k (e ∷ es) zero d a l = a.0
  less_at k (e ∷ es) (suc i) d a l = less_at k es i d a.1 (omega arith)

  -- in key order, what is not below the key at i is above those before it
  pub above_before : IsTotalOrder cmp → (es : List (K × X)) (i : ℕ) (d : K × X) → IsStrictlySortedBy cmp (keys_of es) → i < length es → is_lt (cmp q (get_or es i d).0) ≡ false → AboveFirst cmp q es i
  unfolding IsStrictlySortedBy
  above_before o [] i d s l n = absurd (omega arith)
  above_before o (e ∷ es) zero d s l n = tt
  above_before o (e ∷ es) (suc i) d s l n =
      (above_lower o q e.0 (get_or es i d).0 (less_at e.0 es i d s.0 (omega arith)) n, above_before o es i d s.1 (omega arith) n)

  pub above_more : (es : List (K × X)) (i : ℕ) (d : K × X) → i < length es → AboveFirst cmp q es i → cmp q (get_or es i d).0 ≡ Greater → AboveFirst cmp q es (suc i)
  above_more [] i d l a h = absurd (omega arith)
  above_more (e ∷ es) zero d l a h = (h, tt)
  above_more (e ∷ es) (suc i) d l a h = (a.0, above_more es i d (omega arith) a.1 h)

  -- no pair has the key q, where it is not above the first
  pub lookup-before : IsTotalOrder cmp → (e : K × X) (es : List (K × X)) → IsStrictlySortedBy cmp (keys_of (e ∷ es)) → cmp q e.0 ≡ Less → lookup (is_at (cmp q)) (e ∷ es) ≡ None
  unfolding IsStrictlySortedBy
  lookup-before o e [] s h = rw h refl
  lookup-before o e (f ∷ es) s h = rw h (lookup-before o f es s.1 (o.trans q e.0 f.0 h s.0.0))

  pub remove_entry-before : IsTotalOrder cmp → (e : K × X) (es : List (K × X)) → IsStrictlySortedBy cmp (keys_of (e ∷ es)) → cmp q e.0 ≡ Less → remove_entry (is_at (cmp q)) (e ∷ es) ≡ e ∷ es
  unfolding IsStrictlySortedBy
  remove_entry-before o e [] s h = rw h refl
  remove_entry-before o e (f ∷ es) s h = rw h (ap (λ l. e ∷ l) (remove_entry-before o f es s.1 (o.trans q e.0 f.0 h s.0.0)))

  -- ---- where q is the key at i
  pub lookup-found : (es : List (K × X)) (i : ℕ) (d : K × X) → IsFoundAt cmp q es i → lookup (is_at (cmp q)) es ≡ Some (get_or es i d).1
  lookup-found [] i d f = absurd (omega (arith, f.inside))
  lookup-found (e ∷ es) zero d f = let h = f.equal in rw h refl
  lookup-found (e ∷ es) (suc i) d f = let h = f.above.0 in
      rw h (lookup-found es i d (record { inside = omega (arith, f.inside); above = f.above.1; equal = f.equal }))

  pub insert_entry-found : (es : List (K × X)) (i : ℕ) (d : K × X) (v : X) → IsFoundAt cmp q es i → insert_entry cmp es q v ≡ set es i ((get_or es i d).0, v)
  insert_entry-found [] i d v f = absurd (omega (arith, f.inside))
  insert_entry-found (e ∷ es) zero d v f = let h = f.equal in rw h refl
  insert_entry-found (e ∷ es) (suc i) d v f = let h = f.above.0 in
      rw h (ap (λ l. e ∷ l) (insert_entry-found es i d v (record { inside = omega (arith, f.inside); above = f.above.1; equal = f.equal })))

  pub remove_entry-found : (es : List (K × X)) (i : ℕ) → IsFoundAt cmp q es i → remove_entry (is_at (cmp q)) es ≡ remove es i
  remove_entry-found [] i f = absurd (omega (arith, f.inside))
  remove_entry-found (e ∷ es) zero f = let h = f.equal in rw h refl
  remove_entry-found (e ∷ es) (suc i) f = let h = f.above.0 in
      rw h (ap (λ l. e ∷ l) (remove_entry-found es i (record { inside = omega (arith, f.inside); above = f.above.1; equal = f.equal })))

  pub count_below-found : (es : List (K × X)) (i : ℕ) → IsFoundAt cmp q es i → count_below cmp q es ≡ i
  count_below-found [] i f = absurd (omega (arith, f.inside))
  count_below-found (e ∷ es) zero f = let h = f.equal in rw h refl
  count_below-found (e ∷ es) (suc i) f = let h = f.above.0 in
      rw h (omega (arith, count_below-found es i (record { inside = omega (arith, f.inside); above = f.above.1; equal = f.equal })))

  -- ---- where q would stand at i
  pub lookup-gap : IsTotalOrder cmp → (es : List (K × X)) (i : ℕ) → IsStrictlySortedBy cmp (keys_of es) → IsGapAt cmp q es i → lookup (is_at (cmp q)) es ≡ None
  unfolding IsStrictlySortedBy
  lookup-gap o [] i s g = refl
  lookup-gap o (e ∷ es) zero s g = lookup-before o e es s g.below
  lookup-gap o (e ∷ es) (suc i) s g = let h = g.above.0 in
      rw h (lookup-gap o es i s.1 (record { inside = omega (arith, g.inside); above = g.above.1; below = g.below }))

  pub remove_entry-gap : IsTotalOrder cmp → (es : List (K × X)) (i : ℕ) → IsStrictlySortedBy cmp (keys_of es) → IsGapAt cmp q es i → remove_entry (is_at (cmp q)) es ≡ es
  unfolding IsStrictlySortedBy
  remove_entry-gap o [] i s g = refl
  remove_entry-gap o (e ∷ es) zero s g = remove_entry-before o e es s g.below
  remove_entry-gap o (e ∷ es) (suc i) s g = let h = g.above.0 in
      rw h (ap (λ l. e ∷ l) (remove_entry-gap o es i s.1 (record { inside = omega (arith, g.inside); above = g.above.1; below = g.below })))

  pub insert_entry-gap : (es : List (K × X)) (i : ℕ) (v : X) → IsGapAt cmp q es i → insert_entry cmp es q v ≡ insert es i (q, v)
  insert_entry-gap [] zero v g = refl
  insert_entry-gap [] (suc i) v g = absurd g.above
  insert_entry-gap (e ∷ es) zero v g = let h = g.below in rw h refl
  insert_entry-gap (e ∷ es) (suc i) v g = let h = g.above.0 in
      rw h (ap (λ l. e ∷ l) (insert_entry-gap es i v (record { inside = omega (arith, g.inside); above = g.above.1; below = g.below })))

  pub count_below-gap : (es : List (K × X)) (i : ℕ) → IsGapAt cmp q es i → count_below cmp q es ≡ i
  count_below-gap [] zero g = refl
  count_below-gap [] (suc i) g = absurd g.above
  count_below-gap (e ∷ es) zero g = let h = g.below in rw h refl
  count_below-gap (e ∷ es) (suc i) g = let h = g.above.0 in
      rw h (omega (arith, count_below-gap es i (record { inside = omega (arith, g.inside); above = g.above.1; below = g.below })))
