-- What a look-up gives after a change, and that pairs in key order are known by their look-ups.
use Rattle.std.proofs.Common.{◌≡◌, Bool, true, false, cond, List, [], ◌∷◌, Option, Some, None, map, filter, refl, sym, ap, ◌∙◌, true≢false}
use Rattle.std.proofs.lemmas.Map.{lookup-none, lookup-remove_entry}
use Rattle.std.proofs.lemmas.Map.Entries.{none_past_head}
use Rattle.std.proofs.lemmas.Map.Keys.{IsDistinct-from_sorted}
use Rattle.std.specs.Cmp.{IsTotalOrder, eq_by_cmp_equiv}
use Rattle.std.specs.List.{AllByRecursion}
use Rattle.std.specs.List.Sorted.{IsStrictlySortedBy}
use Rattle.std.specs.Map.{keys_of, lookup, remove_entry}
use Rattle.std.specs.BTreeMap.{is_at, insert_entry}
use Rattle.std.specs.Ordering.{is_eq, match_ordering, ordering_reverse}
use Rattle.std.specs.declared.cmp.Ordering.{Ordering}
use Rattle.std.specs.declared.cmp.Ordering.TheVariants.{Less, Equal, Greater}
use Rattle.dg_pmap.proofs.Orders.{by_ordering}
use Rattle.dg_pmap.proofs.Places.{lookup-before}
use Rattle.dg_pmap.proofs.Sorted.{sorted-insert_entry, sorted-remove_entry}

pub equal-is : (r : Ordering) → is_eq r ≡ true → r ≡ Equal
equal-is r h = by_ordering r (λ e. absurd (true≢false (sym h ∙ ap is_eq e))) (λ e. e) (λ e. absurd (true≢false (sym h ∙ ap is_eq e)))

is_eq-reverse : (r : Ordering) → is_eq (ordering_reverse r) ≡ is_eq r
is_eq-reverse Less = refl
is_eq-reverse Equal = refl
is_eq-reverse Greater = refl

some_not_none : {X : Type 0} (x : X) → Some x ≡ None → ⊥
some_not_none x e = cc

some_same : {X : Type 0} (x y : X) → Some x ≡ Some y → x ≡ y
some_same x y e = cc

module _ {K : Type 0} {cmp : K → K → Ordering} (o : IsTotalOrder cmp) where
  pub is_eq-swap : (a b : K) → is_eq (cmp a b) ≡ is_eq (cmp b a)
  is_eq-swap a b = ap is_eq (o.antisymm a b) ∙ is_eq-reverse (cmp b a)

  pub equal-itself : (a : K) → is_eq (cmp a a) ≡ true
  equal-itself a = by_answer (cmp a a) (o.antisymm a a)
    where
      by_answer : (r : Ordering) → r ≡ ordering_reverse r → is_eq r ≡ true
      by_answer Less h = let none : ⊥ = cc in absurd none
      by_answer Equal h = refl
      by_answer Greater h = let none : ⊥ = cc in absurd none

module _ {K X : Type 0} {cmp : K → K → Ordering} (o : IsTotalOrder cmp) (k : K) (q : K) where
  -- with one pair more, or another value at its key
  pub lookup-insert_entry : (v : X) (es : List (K × X)) → lookup (is_at (cmp q)) (insert_entry cmp es k v) ≡ cond (is_eq (cmp q k)) (Some v) (lookup (is_at (cmp q)) es)
  lookup-insert_entry v [] = refl
  lookup-insert_entry v (e ∷ es) = by_order (cmp k e.0) refl (lookup-insert_entry v es)
    where
      Goal : Ordering → Type 0
      Goal r = lookup (is_at (cmp q)) (match_ordering r ((k, v) ∷ e ∷ es) ((e.0, v) ∷ es) (e ∷ insert_entry cmp es k v)) ≡ cond (is_eq (cmp q k)) (Some v) (lookup (is_at (cmp q)) (e ∷ es))

      apart : cmp k e.0 ≡ Greater → (r s : Ordering) → cmp q k ≡ r → cmp q e.0 ≡ s → cond (is_eq s) (Some e.1) (cond (is_eq r) (Some v) (lookup (is_at (cmp q)) es)) ≡ cond (is_eq r) (Some v) (cond (is_eq s) (Some e.1) (lookup (is_at (cmp q)) es))
      apart g Equal Equal a b = let c = o.congr q k e.0 a in let bad : Equal ≡ Greater = cc in let none : ⊥ = cc in absurd none
      apart g Equal Less a b = refl
      apart g Equal Greater a b = refl
      apart g Less s a b = refl
      apart g Greater s a b = refl

      same : cmp k e.0 ≡ Equal → cmp q e.0 ≡ cmp q k
      same e_is = o.antisymm q e.0 ∙ ap ordering_reverse (sym (o.congr k e.0 q e_is)) ∙ sym (o.antisymm q k)

      by_order : (r : Ordering) → cmp k e.0 ≡ r → lookup (is_at (cmp q)) (insert_entry cmp es k v) ≡ cond (is_eq (cmp q k)) (Some v) (lookup (is_at (cmp q)) es) → Goal r
      by_order Less is h = refl
      by_order Equal is h = rw (same is) (twice (is_eq (cmp q k)))
        where
          twice : (b : Bool) → cond b (Some v) (lookup (is_at (cmp q)) es) ≡ cond b (Some v) (cond b (Some e.1) (lookup (is_at (cmp q)) es))
          twice true = refl
          twice false = refl
      by_order Greater is h = ap (λ rest. cond (is_eq (cmp q e.0)) (Some e.1) rest) h ∙ apart is (cmp q k) (cmp q e.0) refl refl

  -- without a pair
  pub lookup-without : (es : List (K × X)) → IsStrictlySortedBy cmp (keys_of es) → lookup (is_at (cmp q)) (remove_entry (is_at (cmp k)) es) ≡ cond (is_eq (cmp q k)) None (lookup (is_at (cmp q)) es)
  lookup-without es s =
      lookup-remove_entry (eq_by_cmp_equiv o) (is_at (cmp k)) (λ x y h. ap is_eq (o.congr k x y (equal-is (cmp k x) h))) q es (IsDistinct-from_sorted cmp (keys_of es) s)
      ∙ ap (λ b. cond b None (lookup (is_at (cmp q)) es)) (is_eq-swap o k q)

-- an equal key finds the same
pub lookup-equal : {K X : Type 0} {cmp : K → K → Ordering} → IsTotalOrder cmp → (a b : K) → is_eq (cmp a b) ≡ true → (es : List (K × X)) → lookup (is_at (cmp a)) es ≡ lookup (is_at (cmp b)) es
lookup-equal o a b h [] = refl
lookup-equal {cmp = cmp} o a b h (e ∷ es) =
    let one : is_eq (cmp a e.0) ≡ is_eq (cmp b e.0) = ap is_eq (o.congr a b e.0 (equal-is (cmp a b) h)) in
    ap (λ t. cond t (Some e.1) (lookup (is_at (cmp a)) es)) one ∙ ap (λ r. cond (is_eq (cmp b e.0)) (Some e.1) r) (lookup-equal o a b h es)

-- pairs in key order with the same look-ups are the same
module _ {K X : Type 0} {cmp : K → K → Ordering} (o : IsTotalOrder cmp) (exact : (a b : K) → cmp a b ≡ Equal → a ≡ b) where
  pub found_head : (e : K × X) (es : List (K × X)) → lookup (is_at (cmp e.0)) (e ∷ es) ≡ Some e.1
  found_head e es = ap (λ b. cond b (Some e.1) (lookup (is_at (cmp e.0)) es)) (equal-itself o e.0)

  pub past_head : (e : K × X) (es : List (K × X)) (q : K) → IsStrictlySortedBy cmp (keys_of (e ∷ es)) → is_eq (cmp q e.0) ≡ true → lookup (is_at (cmp q)) es ≡ None
  past_head e es q s h = lookup-none (is_at (cmp q)) es (none_past_head (eq_by_cmp_equiv o) q e es (IsDistinct-from_sorted cmp (keys_of (e ∷ es)) s) h)

  tails : (e f : K × X) (es fs : List (K × X)) → e.0 ≡ f.0 → IsStrictlySortedBy cmp (keys_of (e ∷ es)) → IsStrictlySortedBy cmp (keys_of (f ∷ fs)) →
      ((q : K) → lookup (is_at (cmp q)) (e ∷ es) ≡ lookup (is_at (cmp q)) (f ∷ fs)) → (q : K) → lookup (is_at (cmp q)) es ≡ lookup (is_at (cmp q)) fs
  tails e f es fs is s t agree q = by_test (is_eq (cmp q e.0)) refl
    where
      at : is_eq (cmp q e.0) ≡ is_eq (cmp q f.0)
      at = ap (λ k. is_eq (cmp q k)) is

      by_test : (b : Bool) → is_eq (cmp q e.0) ≡ b → lookup (is_at (cmp q)) es ≡ lookup (is_at (cmp q)) fs
      by_test true h = past_head e es q s h ∙ sym (past_head f fs q t (sym at ∙ h))
      by_test false h =
          sym (ap (λ b. cond b (Some e.1) (lookup (is_at (cmp q)) es)) h)
          ∙ agree q
          ∙ ap (λ b. cond b (Some f.1) (lookup (is_at (cmp q)) fs)) (sym at ∙ h)

  pair_is : (e f : K × X) → e.0 ≡ f.0 → e.1 ≡ f.1 → e ≡ f
  pair_is e f h k = ap (λ a. (a, e.1)) h ∙ ap (λ b. (f.0, b)) k

  pub same_lookups : (es fs : List (K × X)) → IsStrictlySortedBy cmp (keys_of es) → IsStrictlySortedBy cmp (keys_of fs) →
      ((q : K) → lookup (is_at (cmp q)) es ≡ lookup (is_at (cmp q)) fs) → es ≡ fs
  unfolding IsStrictlySortedBy
  same_lookups [] [] s t agree = refl
  same_lookups [] (f ∷ fs) s t agree = absurd (some_not_none f.1 (sym (found_head f fs) ∙ sym (agree f.0)))
  same_lookups (e ∷ es) [] s t agree = absurd (some_not_none e.1 (sym (found_head e es) ∙ agree e.0))
  same_lookups (e ∷ es) (f ∷ fs) s t agree =
      by_ordering (cmp e.0 f.0)
      (λ h. absurd (some_not_none e.1 (sym (found_head e es) ∙ agree e.0 ∙ lookup-before cmp e.0 o f fs t h)))
      (λ h. at_one (exact e.0 f.0 h) (same_lookups es fs s.1 t.1))
      (λ h. absurd (some_not_none f.1 (sym (found_head f fs) ∙ sym (agree f.0) ∙ lookup-before cmp f.0 o e es s (o.antisymm f.0 e.0 ∙ ap ordering_reverse h))))
    where
      at_one : e.0 ≡ f.0 → (((q : K) → lookup (is_at (cmp q)) es ≡ lookup (is_at (cmp q)) fs) → es ≡ fs) → e ∷ es ≡ f ∷ fs
      at_one is rest =
          let values : e.1 ≡ f.1 = some_same e.1 f.1 (sym (found_head e es) ∙ agree e.0 ∙ ap (λ k. lookup (is_at (cmp k)) (f ∷ fs)) is ∙ found_head f fs) in
          ap (λ x. x ∷ es) (pair_is e f is values) ∙ ap (λ l. f ∷ l) (rest (tails e f es fs is s t agree))

  -- a pair taken out and put in anew is another value at its key
  pub insert-without : (k : K) (v : X) (es : List (K × X)) → IsStrictlySortedBy cmp (keys_of es) → insert_entry cmp (remove_entry (is_at (cmp k)) es) k v ≡ insert_entry cmp es k v
  insert-without k v es s =
      same_lookups (insert_entry cmp (remove_entry (is_at (cmp k)) es) k v) (insert_entry cmp es k v)
      (sorted-insert_entry o k v (remove_entry (is_at (cmp k)) es) (sorted-remove_entry o (is_at (cmp k)) es s)) (sorted-insert_entry o k v es s)
      (λ q. lookup-insert_entry o k q v (remove_entry (is_at (cmp k)) es)
      ∙ ap (λ r. cond (is_eq (cmp q k)) (Some v) r) (lookup-without o k q es s)
      ∙ once (is_eq (cmp q k)) (lookup (is_at (cmp q)) es)
      ∙ sym (lookup-insert_entry o k q v es))
    where
      once : (b : Bool) (r : Option X) → cond b (Some v) (cond b None r) ≡ cond b (Some v) r
      once true r = refl
      once false r = refl

-- nothing is left at a key that was taken out
pub lookup-gone : {K X : Type 0} {cmp : K → K → Ordering} → IsTotalOrder cmp → (k : K) (es : List (K × X)) → IsStrictlySortedBy cmp (keys_of es) → lookup (is_at (cmp k)) (remove_entry (is_at (cmp k)) es) ≡ None
lookup-gone {cmp = cmp} o k es s = lookup-without o k k es s ∙ ap (λ b. cond b None (lookup (is_at (cmp k)) es)) (equal-itself o k)

-- ---- some of the pairs

module _ {K X : Type 0} (cmp : K → K → Ordering) where
  all_filter : (k : K) (p : K × X → Bool) (es : List (K × X)) → AllByRecursion (λ y. cmp k y ≡ Less) (keys_of es) → AllByRecursion (λ y. cmp k y ≡ Less) (keys_of (filter p es))
  all_filter k p [] a = tt
  all_filter k p (e ∷ es) a = by_test (p e) (all_filter k p es a.1)
    where
      by_test : (b : Bool) → AllByRecursion (λ y. cmp k y ≡ Less) (keys_of (filter p es)) → AllByRecursion (λ y. cmp k y ≡ Less) (keys_of (cond b (e ∷ filter p es) (filter p es)))
      by_test true rest = (a.0, rest)
      by_test false rest = rest

  pub sorted-filter : (p : K × X → Bool) (es : List (K × X)) → IsStrictlySortedBy cmp (keys_of es) → IsStrictlySortedBy cmp (keys_of (filter p es))
  unfolding IsStrictlySortedBy
  sorted-filter p [] s = tt
  sorted-filter p (e ∷ es) s = by_test (p e) (sorted-filter p es s.1)
    where
      by_test : (b : Bool) → IsStrictlySortedBy cmp (keys_of (filter p es)) → IsStrictlySortedBy cmp (keys_of (cond b (e ∷ filter p es) (filter p es)))
      by_test true rest = (all_filter e.0 p es s.0, rest)
      by_test false rest = rest

-- the same pairs under other keys in the same order
module _ {K X J Y : Type 0} (cmp : K → K → Ordering) (cmp' : J → J → Ordering) (mk : K → J) (g : X → Y) (rises : (k l : K) → cmp' (mk k) (mk l) ≡ cmp k l) where
  all_map : (k : K) (es : List (K × X)) → AllByRecursion (λ y. cmp k y ≡ Less) (keys_of es) → AllByRecursion (λ y. cmp' (mk k) y ≡ Less) (keys_of (map (λ (e : K × X). (mk e.0, g e.1)) es))
  all_map k [] a = tt
  all_map k (e ∷ es) a = (rises k e.0 ∙ a.0, all_map k es a.1)

  pub sorted-map : (es : List (K × X)) → IsStrictlySortedBy cmp (keys_of es) → IsStrictlySortedBy cmp' (keys_of (map (λ (e : K × X). (mk e.0, g e.1)) es))
  unfolding IsStrictlySortedBy
  sorted-map [] s = tt
  sorted-map (e ∷ es) s = (all_map e.0 es s.0, sorted-map es s.1)
