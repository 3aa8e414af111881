-- Pairs in key order that are split at a key: what the whole gives is what one half gives.
use Rattle.std.proofs.Common.{◌≡◌, ℕ, zero, suc, ◌+◌, ◌<◌, ◌≤◌, Bool, true, false, cond, Option, Some, None, List, [], ◌∷◌, ◌++◌, length, refl, sym, ap, subst, ◌∙◌, arith, true≢false, length-append}
use Rattle.std.specs.Cmp.{IsTotalOrder}
use Rattle.std.specs.List.{AllByRecursion}
use Rattle.std.specs.List.Sorted.{IsStrictlySortedBy}
use Rattle.std.specs.Map.{keys_of, lookup, remove_entry}
use Rattle.std.specs.BTreeMap.{is_at, insert_entry}
use Rattle.std.specs.Ordering.{is_lt, is_gt, is_eq, match_ordering}
use Rattle.std.specs.declared.cmp.Ordering.{Ordering}
use Rattle.std.specs.declared.cmp.Ordering.TheVariants.{Less, Equal, Greater}
use Rattle.dg_pmap.specs.Firsts.{first_key_of}
use Rattle.dg_pmap.specs.Places.{count_below}
use Rattle.dg_pmap.proofs.Orders.{by_ordering, above_lower, below_higher}
use Rattle.dg_pmap.proofs.Places.{lookup-before, remove_entry-before}

-- the lower and the upper half of some pairs, the upper one from its first key
pub record IsSplit {K X : Type 0} (all low : List (K × X)) (split : K) (high : List (K × X)) : Type 0 where
  pub is : low ++ high ≡ all
  pub first : first_key_of high ≡ Some split

is_less : (r : Ordering) → is_lt r ≡ true → r ≡ Less
is_less r h = by_ordering r (λ e. e) (λ e. absurd (true≢false (sym h ∙ ap is_lt e))) (λ e. absurd (true≢false (sym h ∙ ap is_lt e)))

none_some : {A : Type 0} {P : Type 0} (x : A) → None ≡ Some x → P
none_some {A} {P} x e = absurd (apart x e)
  where
    apart : (x : A) → None ≡ Some x → ⊥
    apart x e = cc

some_is : {A : Type 0} (x y : A) → Some x ≡ Some y → x ≡ y
some_is x y e = cc

module _ {K X : Type 0} (cmp : K → K → Ordering) where
  all_before : (k : K) (ls es : List (K × X)) → AllByRecursion (λ y. cmp k y ≡ Less) (keys_of (ls ++ es)) → AllByRecursion (λ y. cmp k y ≡ Less) (keys_of ls)
  all_before k [] es a = tt
  all_before k (l ∷ ls) es a = (a.0, all_before k ls es a.1)

  first_after : (k : K) (ls : List (K × X)) (e : K × X) (es : List (K × X)) → AllByRecursion (λ y. cmp k y ≡ Less) (keys_of (ls ++ e ∷ es)) → cmp k e.0 ≡ Less
  first_after k [] e es a = a.0
  first_after k (l ∷ ls) e es a = first_after k ls e es a.1

  sorted_before : (ls es : List (K × X)) → IsStrictlySortedBy cmp (keys_of (ls ++ es)) → IsStrictlySortedBy cmp (keys_of ls)
  unfolding IsStrictlySortedBy
  sorted_before [] es s = tt
  sorted_before (l ∷ ls) es s = (all_before l.0 ls es s.0, sorted_before ls es s.1)

  sorted_after : (ls es : List (K × X)) → IsStrictlySortedBy cmp (keys_of (ls ++ es)) → IsStrictlySortedBy cmp (keys_of es)
  unfolding IsStrictlySortedBy
  sorted_after [] es s = s
  sorted_after (l ∷ ls) es s = sorted_after ls es s.1

  -- ---- a key that is below the first of the upper pairs stays in the lower ones
  lookup_low : IsTotalOrder cmp → (q : K) (ls : List (K × X)) (e : K × X) (es : List (K × X)) → IsStrictlySortedBy cmp (keys_of (e ∷ es)) → cmp q e.0 ≡ Less → lookup (is_at (cmp q)) (ls ++ e ∷ es) ≡ lookup (is_at (cmp q)) ls
  lookup_low o q [] e es s h = lookup-before cmp q o e es s h
  lookup_low o q (l ∷ ls) e es s h = ap (cond (is_at (cmp q) l.0) (Some l.1)) (lookup_low o q ls e es s h)

  remove_low : IsTotalOrder cmp → (q : K) (ls : List (K × X)) (e : K × X) (es : List (K × X)) → IsStrictlySortedBy cmp (keys_of (e ∷ es)) → cmp q e.0 ≡ Less → remove_entry (is_at (cmp q)) (ls ++ e ∷ es) ≡ remove_entry (is_at (cmp q)) ls ++ e ∷ es
  remove_low o q [] e es s h = remove_entry-before cmp q o e es s h
  remove_low o q (l ∷ ls) e es s h = by_test (is_at (cmp q) l.0) (remove_low o q ls e es s h)
    where
      by_test : (b : Bool) → remove_entry (is_at (cmp q)) (ls ++ e ∷ es) ≡ remove_entry (is_at (cmp q)) ls ++ e ∷ es → cond b (ls ++ e ∷ es) (l ∷ remove_entry (is_at (cmp q)) (ls ++ e ∷ es)) ≡ cond b ls (l ∷ remove_entry (is_at (cmp q)) ls) ++ e ∷ es
      by_test true r = refl
      by_test false r = ap (λ x. l ∷ x) r

  insert_low : (q : K) (v : X) (ls : List (K × X)) (e : K × X) (es : List (K × X)) → cmp q e.0 ≡ Less → insert_entry cmp (ls ++ e ∷ es) q v ≡ insert_entry cmp ls q v ++ e ∷ es
  insert_low q v [] e es h = rw h refl
  insert_low q v (l ∷ ls) e es h = by_order (cmp q l.0) (insert_low q v ls e es h)
    where
      by_order : (r : Ordering) → insert_entry cmp (ls ++ e ∷ es) q v ≡ insert_entry cmp ls q v ++ e ∷ es
          → match_ordering r ((q, v) ∷ l ∷ ls ++ e ∷ es) ((l.0, v) ∷ ls ++ e ∷ es) (l ∷ insert_entry cmp (ls ++ e ∷ es) q v)
          ≡ match_ordering r ((q, v) ∷ l ∷ ls) ((l.0, v) ∷ ls) (l ∷ insert_entry cmp ls q v) ++ e ∷ es
      by_order Less t = refl
      by_order Equal t = refl
      by_order Greater t = ap (λ x. l ∷ x) t

  count_low : (q : K) (ls : List (K × X)) (e : K × X) (es : List (K × X)) → cmp q e.0 ≡ Less → count_below cmp q (ls ++ e ∷ es) ≡ count_below cmp q ls
  count_low q [] e es h = rw h refl
  count_low q (l ∷ ls) e es h = ap (λ n. cond (is_gt (cmp q l.0)) (n + 1) 0) (count_low q ls e es h)

  -- ---- a key that is not below the first of the upper pairs passes the lower ones
  abbrev IsAbove : K → List (K × X) → Type 0
  IsAbove q [] = Unit {0}
  IsAbove q (l ∷ ls) = (cmp q l.0 ≡ Greater) × IsAbove q ls

  above : IsTotalOrder cmp → (q : K) (ls : List (K × X)) (e : K × X) (es : List (K × X)) → IsStrictlySortedBy cmp (keys_of (ls ++ e ∷ es)) → is_lt (cmp q e.0) ≡ false → IsAbove q ls
  unfolding IsStrictlySortedBy
  above o q [] e es s n = tt
  above o q (l ∷ ls) e es s n = (above_lower o q l.0 e.0 (first_after l.0 ls e es s.0) n, above o q ls e es s.1 n)

  lookup_high : (q : K) (ls es : List (K × X)) → IsAbove q ls → lookup (is_at (cmp q)) (ls ++ es) ≡ lookup (is_at (cmp q)) es
  lookup_high q [] es a = refl
  lookup_high q (l ∷ ls) es a = let h = a.0 in rw h (lookup_high q ls es a.1)

  remove_high : (q : K) (ls es : List (K × X)) → IsAbove q ls → remove_entry (is_at (cmp q)) (ls ++ es) ≡ ls ++ remove_entry (is_at (cmp q)) es
  remove_high q [] es a = refl
  remove_high q (l ∷ ls) es a = let h = a.0 in rw h (ap (λ x. l ∷ x) (remove_high q ls es a.1))

  insert_high : (q : K) (v : X) (ls es : List (K × X)) → IsAbove q ls → insert_entry cmp (ls ++ es) q v ≡ ls ++ insert_entry cmp es q v
  insert_high q v [] es a = refl
  insert_high q v (l ∷ ls) es a = let h = a.0 in rw h (ap (λ x. l ∷ x) (insert_high q v ls es a.1))

  count_high : (q : K) (ls es : List (K × X)) → IsAbove q ls → count_below cmp q (ls ++ es) ≡ length ls + count_below cmp q es
  count_high q [] es a = omega arith
  count_high q (l ∷ ls) es a = let h = a.0 in rw h (omega (arith, count_high q ls es a.1))

  -- ---- the same at a split
  pub sorted-low : (all low : List (K × X)) (k : K) (high : List (K × X)) → IsSplit all low k high → IsStrictlySortedBy cmp (keys_of all) → IsStrictlySortedBy cmp (keys_of low)
  sorted-low all low k high p s = let P : List (K × X) → Type 0 = λ l. IsStrictlySortedBy cmp (keys_of l) in sorted_before low high (subst P (sym p.is) s)

  pub sorted-high : (all low : List (K × X)) (k : K) (high : List (K × X)) → IsSplit all low k high → IsStrictlySortedBy cmp (keys_of all) → IsStrictlySortedBy cmp (keys_of high)
  sorted-high all low k high p s = let P : List (K × X) → Type 0 = λ l. IsStrictlySortedBy cmp (keys_of l) in sorted_after low high (subst P (sym p.is) s)

  less_first : (q k : K) (e : K × X) → Some e.0 ≡ Some k → is_lt (cmp q k) ≡ true → cmp q e.0 ≡ Less
  less_first q k e f h = ap (cmp q) (some_is e.0 k f) ∙ is_less (cmp q k) h

  not_less_first : (q k : K) (e : K × X) → Some e.0 ≡ Some k → is_lt (cmp q k) ≡ false → is_lt (cmp q e.0) ≡ false
  not_less_first q k e f h = ap (λ x. is_lt (cmp q x)) (some_is e.0 k f) ∙ h

  pub lookup-low : IsTotalOrder cmp → (q : K) (all low : List (K × X)) (k : K) (high : List (K × X)) → IsSplit all low k high → IsStrictlySortedBy cmp (keys_of all) → is_lt (cmp q k) ≡ true → lookup (is_at (cmp q)) all ≡ lookup (is_at (cmp q)) low
  lookup-low o q all low k [] p s h = none_some k p.first
  lookup-low o q all low k (e ∷ es) p s h = ap (lookup (is_at (cmp q))) (sym p.is) ∙ lookup_low o q low e es (sorted-high all low k (e ∷ es) p s) (less_first q k e p.first h)

  pub lookup-high : IsTotalOrder cmp → (q : K) (all low : List (K × X)) (k : K) (high : List (K × X)) → IsSplit all low k high → IsStrictlySortedBy cmp (keys_of all) → is_lt (cmp q k) ≡ false → lookup (is_at (cmp q)) all ≡ lookup (is_at (cmp q)) high
  lookup-high o q all low k [] p s h = none_some k p.first
  lookup-high o q all low k (e ∷ es) p s h =
      let P : List (K × X) → Type 0 = λ l. IsStrictlySortedBy cmp (keys_of l) in
      ap (lookup (is_at (cmp q))) (sym p.is) ∙ lookup_high q low (e ∷ es) (above o q low e es (subst P (sym p.is) s) (not_less_first q k e p.first h))

  pub remove_entry-low : IsTotalOrder cmp → (q : K) (all low : List (K × X)) (k : K) (high : List (K × X)) → IsSplit all low k high → IsStrictlySortedBy cmp (keys_of all) → is_lt (cmp q k) ≡ true → remove_entry (is_at (cmp q)) all ≡ remove_entry (is_at (cmp q)) low ++ high
  remove_entry-low o q all low k [] p s h = none_some k p.first
  remove_entry-low o q all low k (e ∷ es) p s h = ap (remove_entry (is_at (cmp q))) (sym p.is) ∙ remove_low o q low e es (sorted-high all low k (e ∷ es) p s) (less_first q k e p.first h)

  pub remove_entry-high : IsTotalOrder cmp → (q : K) (all low : List (K × X)) (k : K) (high : List (K × X)) → IsSplit all low k high → IsStrictlySortedBy cmp (keys_of all) → is_lt (cmp q k) ≡ false → remove_entry (is_at (cmp q)) all ≡ low ++ remove_entry (is_at (cmp q)) high
  remove_entry-high o q all low k [] p s h = none_some k p.first
  remove_entry-high o q all low k (e ∷ es) p s h =
      let P : List (K × X) → Type 0 = λ l. IsStrictlySortedBy cmp (keys_of l) in
      ap (remove_entry (is_at (cmp q))) (sym p.is) ∙ remove_high q low (e ∷ es) (above o q low e es (subst P (sym p.is) s) (not_less_first q k e p.first h))

  pub insert_entry-low : (q : K) (v : X) (all low : List (K × X)) (k : K) (high : List (K × X)) → IsSplit all low k high → is_lt (cmp q k) ≡ true → insert_entry cmp all q v ≡ insert_entry cmp low q v ++ high
  insert_entry-low q v all low k [] p h = none_some k p.first
  insert_entry-low q v all low k (e ∷ es) p h = ap (λ l. insert_entry cmp l q v) (sym p.is) ∙ insert_low q v low e es (less_first q k e p.first h)

  pub insert_entry-high : IsTotalOrder cmp → (q : K) (v : X) (all low : List (K × X)) (k : K) (high : List (K × X)) → IsSplit all low k high → IsStrictlySortedBy cmp (keys_of all) → is_lt (cmp q k) ≡ false → insert_entry cmp all q v ≡ low ++ insert_entry cmp high q v
  insert_entry-high o q v all low k [] p s h = none_some k p.first
  insert_entry-high o q v all low k (e ∷ es) p s h =
      let P : List (K × X) → Type 0 = λ l. IsStrictlySortedBy cmp (keys_of l) in
      ap (λ l. insert_entry cmp l q v) (sym p.is) ∙ insert_high q v low (e ∷ es) (above o q low e es (subst P (sym p.is) s) (not_less_first q k e p.first h))

  pub count_below-low : (q : K) (all low : List (K × X)) (k : K) (high : List (K × X)) → IsSplit all low k high → is_lt (cmp q k) ≡ true → count_below cmp q all ≡ count_below cmp q low
  count_below-low q all low k [] p h = none_some k p.first
  count_below-low q all low k (e ∷ es) p h = ap (count_below cmp q) (sym p.is) ∙ count_low q low e es (less_first q k e p.first h)

  pub count_below-high : IsTotalOrder cmp → (q : K) (all low : List (K × X)) (k : K) (high : List (K × X)) → IsSplit all low k high → IsStrictlySortedBy cmp (keys_of all) → is_lt (cmp q k) ≡ false → count_below cmp q all ≡ length low + count_below cmp q high
  count_below-high o q all low k [] p s h = none_some k p.first
  count_below-high o q all low k (e ∷ es) p s h =
      let P : List (K × X) → Type 0 = λ l. IsStrictlySortedBy cmp (keys_of l) in
      ap (count_below cmp q) (sym p.is) ∙ count_high q low (e ∷ es) (above o q low e es (subst P (sym p.is) s) (not_less_first q k e p.first h))

  -- ---- the first key after a change of the upper pairs
  pub first_key-insert : (q : K) (v : X) (k : K) (es : List (K × X)) → first_key_of es ≡ Some k → is_lt (cmp q k) ≡ false → first_key_of (insert_entry cmp es q v) ≡ Some k
  first_key-insert q v k [] f h = none_some k f
  first_key-insert q v k (e ∷ es) f h = let n = not_less_first q k e f h in by_ordering (cmp q e.0)
      (λ l. absurd (true≢false (sym (ap is_lt l) ∙ n)))
      (λ l. rw l f)
      (λ l. rw l f)

  pub first_key-remove : (q : K) (k : K) (es : List (K × X)) → first_key_of es ≡ Some k → is_eq (cmp q k) ≡ false → first_key_of (remove_entry (is_at (cmp q)) es) ≡ Some k
  first_key-remove q k [] f h = none_some k f
  first_key-remove q k (e ∷ es) f h = let n : is_at (cmp q) e.0 ≡ false = ap (λ x. is_eq (cmp q x)) (some_is e.0 k f) ∙ h in rw n f

-- ---- lengths
pub length-insert_entry-le : {K X : Type 0} (cmp : K → K → Ordering) (q : K) (v : X) (es : List (K × X)) → length (insert_entry cmp es q v) ≤ length es + 1
length-insert_entry-le cmp q v [] = omega arith
length-insert_entry-le cmp q v (e ∷ es) = by_order (cmp q e.0) (length-insert_entry-le cmp q v es)
  where
    by_order : (r : Ordering) → length (insert_entry cmp es q v) ≤ length es + 1
        → length (match_ordering r ((q, v) ∷ e ∷ es) ((e.0, v) ∷ es) (e ∷ insert_entry cmp es q v)) ≤ length (e ∷ es) + 1
    by_order Less t = omega arith
    by_order Equal t = omega arith
    by_order Greater t = omega arith

pub length-remove_entry-ge : {K X : Type 0} (test : K → Bool) (es : List (K × X)) → length es ≤ length (remove_entry test es) + 1
length-remove_entry-ge test [] = omega arith
length-remove_entry-ge test (e ∷ es) = by_test (test e.0) (length-remove_entry-ge test es)
  where
    by_test : (b : Bool) → length es ≤ length (remove_entry test es) + 1 → length (e ∷ es) ≤ length (cond b es (e ∷ remove_entry test es)) + 1
    by_test true t = omega arith
    by_test false t = omega arith

pub length-remove_entry-le : {K X : Type 0} (test : K → Bool) (es : List (K × X)) → length (remove_entry test es) ≤ length es
length-remove_entry-le test [] = omega arith
length-remove_entry-le test (e ∷ es) = by_test (test e.0) (length-remove_entry-le test es)
  where
    by_test : (b : Bool) → length (remove_entry test es) ≤ length es → length (cond b es (e ∷ remove_entry test es)) ≤ length (e ∷ es)
    by_test true t = omega arith
    by_test false t = omega arith
