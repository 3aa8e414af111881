-- Key order after a change, and what a key that isn't there leaves.
use Rattle.std.proofs.Common.{◌≡◌, ℕ, zero, suc, ◌+◌, Bool, true, false, cond, Option, Some, None, List, [], ◌∷◌, length, Result, Ok, Err, refl, sym, ap, subst, ◌∙◌, add-one, arith, true≢false}
use Rattle.std.specs.Cmp.{IsTotalOrder}
use Rattle.std.specs.List.{AllByRecursion, slice_get}
use Rattle.std.specs.List.Sorted.{IsStrictlySortedBy}
use Rattle.std.specs.Map.{keys_of, lookup, remove_entry}
use Rattle.std.specs.BTreeMap.{is_at, insert_entry}
use Rattle.std.specs.Option.{is_some}
use Rattle.std.specs.Result.{OnOk, OnErr}
use Rattle.std.specs.Ordering.{is_gt, match_ordering, ordering_reverse}
use Rattle.std.specs.declared.cmp.Ordering.{Ordering}
use Rattle.std.specs.declared.cmp.Ordering.TheVariants.{Less, Equal, Greater}
use Rattle.dg_pmap.specs.Places.{count_below, first_at_least}
use Rattle.dg_pmap.proofs.Orders.{by_ordering}

all_below : {K : Type 0} {cmp : K → K → Ordering} → IsTotalOrder cmp → (q k : K) (ks : List K) → cmp q k ≡ Less → AllByRecursion (λ y. cmp k y ≡ Less) ks → AllByRecursion (λ y. cmp q y ≡ Less) ks
all_below o q k [] h a = tt
all_below o q k (x ∷ ks) h a = (o.trans q k x h a.0, all_below o q k ks h a.1)

module _ {K X : Type 0} {cmp : K → K → Ordering} (o : IsTotalOrder cmp) where
  all_insert : (k q : K) (v : X) (es : List (K × X)) → cmp k q ≡ Less → AllByRecursion (λ y. cmp k y ≡ Less) (keys_of es) → AllByRecursion (λ y. cmp k y ≡ Less) (keys_of (insert_entry cmp es q v))
  all_insert k q v [] h a = (h, tt)
  all_insert k q v (e ∷ es) h a = by_order (cmp q e.0) (all_insert k q v es h a.1)
    where
      by_order : (r : Ordering) → AllByRecursion (λ y. cmp k y ≡ Less) (keys_of (insert_entry cmp es q v)) → AllByRecursion (λ y. cmp k y ≡ Less) (keys_of (match_ordering r ((q, v) ∷ e ∷ es) ((e.0, v) ∷ es) (e ∷ insert_entry cmp es q v)))
      by_order Less t = (h, a)
      by_order Equal t = a
      by_order Greater t = (a.0, t)

  pub sorted-insert_entry : (q : K) (v : X) (es : List (K × X)) → IsStrictlySortedBy cmp (keys_of es) → IsStrictlySortedBy cmp (keys_of (insert_entry cmp es q v))
  unfolding IsStrictlySortedBy
  sorted-insert_entry q v [] s = (tt, tt)
  sorted-insert_entry q v (e ∷ es) s = by_order (cmp q e.0) refl (sorted-insert_entry q v es s.1)
    where
      by_order : (r : Ordering) → cmp q e.0 ≡ r → IsStrictlySortedBy cmp (keys_of (insert_entry cmp es q v)) → IsStrictlySortedBy cmp (keys_of (match_ordering r ((q, v) ∷ e ∷ es) ((e.0, v) ∷ es) (e ∷ insert_entry cmp es q v)))
      by_order Less h t = ((h, all_below o q e.0 (keys_of es) h s.0), s)
      by_order Equal h t = s
      by_order Greater h t = (all_insert e.0 q v es (o.antisymm e.0 q ∙ ap ordering_reverse h) s.0, t)

  all_remove : (k : K) (test : K → Bool) (es : List (K × X)) → AllByRecursion (λ y. cmp k y ≡ Less) (keys_of es) → AllByRecursion (λ y. cmp k y ≡ Less) (keys_of (remove_entry test es))
  all_remove k test [] a = tt
  all_remove k test (e ∷ es) a = by_test (test e.0) (all_remove k test es a.1)
    where
      by_test : (b : Bool) → AllByRecursion (λ y. cmp k y ≡ Less) (keys_of (remove_entry test es)) → AllByRecursion (λ y. cmp k y ≡ Less) (keys_of (cond b es (e ∷ remove_entry test es)))
      by_test true t = a.1
      by_test false t = (a.0, t)

  pub sorted-remove_entry : (test : K → Bool) (es : List (K × X)) → IsStrictlySortedBy cmp (keys_of es) → IsStrictlySortedBy cmp (keys_of (remove_entry test es))
  unfolding IsStrictlySortedBy
  sorted-remove_entry test [] s = tt
  sorted-remove_entry test (e ∷ es) s = by_test (test e.0) (sorted-remove_entry test es s.1)
    where
      by_test : (b : Bool) → IsStrictlySortedBy cmp (keys_of (remove_entry test es)) → IsStrictlySortedBy cmp (keys_of (cond b es (e ∷ remove_entry test es)))
      by_test true t = s.1
      by_test false t = (all_remove e.0 test es s.0, t)

pub remove_entry-absent : {K X : Type 0} (test : K → Bool) (es : List (K × X)) → is_some (lookup test es) ≡ false → remove_entry test es ≡ es
remove_entry-absent test [] h = refl
remove_entry-absent test (e ∷ es) h = by_test (test e.0) h (remove_entry-absent test es)
  where
    by_test : (b : Bool) → is_some (cond b (Some e.1) (lookup test es)) ≡ false → (is_some (lookup test es) ≡ false → remove_entry test es ≡ es) → cond b es (e ∷ remove_entry test es) ≡ e ∷ es
    by_test true n r = absurd (true≢false n)
    by_test false n r = ap (λ l. e ∷ l) (r n)

-- the first pair whose key isn't below q stands where as many keys are below it
pub first_at_least-place : {K X : Type 0} (cmp : K → K → Ordering) (q : K) (es : List (K × X)) → slice_get es (count_below cmp q es) ≡ first_at_least cmp q es
first_at_least-place cmp q [] = refl
first_at_least-place cmp q (e ∷ es) = by_test (is_gt (cmp q e.0)) (first_at_least-place cmp q es)
  where
    by_test : (b : Bool) → slice_get es (count_below cmp q es) ≡ first_at_least cmp q es → slice_get (e ∷ es) (cond b (count_below cmp q es + 1) 0) ≡ cond b (first_at_least cmp q es) (Some e)
    by_test true r = rw add-one r
    by_test false r = refl

pub sorted-one : {K X : Type 0} (cmp : K → K → Ordering) (e : K × X) → IsStrictlySortedBy cmp (keys_of (e ∷ []))
unfolding IsStrictlySortedBy
sorted-one cmp e = (tt, tt)

-- whether a pair was put or refused
pub sorted-edit : {K X E : Type 0} {cmp : K → K → Ordering} → IsTotalOrder cmp → (q : K) (v : X) (r : Result Bool E) (old new : List (K × X)) → OnOk r (new ≡ insert_entry cmp old q v) → OnErr r (new ≡ old) → IsStrictlySortedBy cmp (keys_of old) → IsStrictlySortedBy cmp (keys_of new)
sorted-edit {K} {X} {E} {cmp} o q v (Ok there) old new a b s = let P : List (K × X) → Type 0 = λ l. IsStrictlySortedBy cmp (keys_of l) in subst P (sym a) (sorted-insert_entry o q v old s)
sorted-edit {K} {X} {E} {cmp} o q v (Err e) old new a b s = let P : List (K × X) → Type 0 = λ l. IsStrictlySortedBy cmp (keys_of l) in subst P (sym b) s
