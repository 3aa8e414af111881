-- Runs: pairs whose keys pass a test that no key below a certain one passes, and none past the first that fails it.
-- They stand side by side, from the place of that key on.
use Rattle.std.proofs.Common.{◌≡◌, ℕ, ◌+◌, ◌<◌, ◌≤◌, Bool, true, false, cond, ◌&&◌, List, [], ◌∷◌, ◌++◌, length, take, drop, get_or, map, filter, find, Some, None, refl, sym, ap, ◌∙◌, add-one, append_assoc, true≢false}
use Rattle.std.proofs.lemmas.List.{take-append-drop, drop-drop, drop_all, drop_more, map-append}
use Rattle.std.proofs.lemmas.List.Sums.{take_while-cons}
use Rattle.std.proofs.lemmas.Map.Entries.{option_filter}
use Rattle.std.specs.Cmp.{IsTotalOrder}
use Rattle.std.specs.List.{AllByRecursion, list_all, take_while}
use Rattle.std.specs.List.Sorted.{IsStrictlySortedBy}
use Rattle.std.specs.Map.{keys_of}
use Rattle.std.specs.Ordering.{is_gt, is_eq, ordering_then, ordering_reverse}
use Rattle.std.specs.declared.cmp.Ordering.{Ordering}
use Rattle.std.specs.declared.cmp.Ordering.TheVariants.{Less, Equal, Greater}
use Rattle.dg_pmap.specs.Places.{count_below, first_at_least}
use Rattle.dg_pmap.proofs.Orders.{by_ordering, below_higher}

pub record IsRun {K : Type 0} (cmp : K → K → Ordering) (q : K) (p : K → Bool) : Type 0 where
  pub below : (k : K) → cmp q k ≡ Greater → p k ≡ false
  pub past : (k l : K) → is_gt (cmp q k) ≡ false → p k ≡ false → cmp k l ≡ Less → p l ≡ false

-- keys are compared by one part of them first, and q has the least other parts
module _ {K P : Type 0} {cmp : K → K → Ordering} {part_cmp : P → P → Ordering} (o : IsTotalOrder part_cmp) (part : K → P) (rest : K → K → Ordering) (splits : (a b : K) → cmp a b ≡ ordering_then (part_cmp (part a) (part b)) (rest a b)) (q : K) (least : (k : K) → is_gt (rest q k) ≡ false) where
  then_at : (a b : K) (r : Ordering) → part_cmp (part a) (part b) ≡ r → cmp a b ≡ ordering_then r (rest a b)
  then_at a b r h = splits a b ∙ ap (λ x. ordering_then x (rest a b)) h

  no_less : (r : Ordering) → Greater ≡ r → r ≡ Less → ⊥
  no_less r g l = let bad : Greater ≡ Less = g ∙ l in absurd (true≢false (ap is_gt bad))

  -- the keys with that part of q are a run
  pub run-of_part : (p : K → Bool) → ((k : K) → is_eq (part_cmp (part q) (part k)) ≡ p k) → IsRun cmp q p
  run-of_part p is = record {
    below = λ k h. by_ordering (part_cmp (part q) (part k))
        (λ l. sym (is k) ∙ ap is_eq l)
        (λ e. absurd (true≢false (sym (ap is_gt (sym (then_at q k Equal e) ∙ h)) ∙ least k)))
        (λ g. sym (is k) ∙ ap is_eq g);
    past = λ k l n f h. by_ordering (part_cmp (part q) (part l))
        (λ r. sym (is l) ∙ ap is_eq r)
        (λ e. absurd (by_ordering (part_cmp (part q) (part k))
        (λ r. no_less (cmp k l) (sym (then_at k l Greater (o.antisymm (part k) (part l) ∙ ap ordering_reverse (sym (o.congr (part q) (part l) (part k) e) ∙ r)))) h)
        (λ r. true≢false (sym (sym (is k) ∙ ap is_eq r) ∙ f))
        (λ r. true≢false (sym (ap is_gt (then_at q k Greater r)) ∙ n))))
        (λ r. sym (is l) ∙ ap is_eq r);
  }

-- the pairs of a run
module _ {K X : Type 0} {cmp : K → K → Ordering} (o : IsTotalOrder cmp) (q : K) (p : K → Bool) (r : IsRun cmp q p) where
  none_past : (k : K) (es : List (K × X)) → is_gt (cmp q k) ≡ false → p k ≡ false → AllByRecursion (λ y. cmp k y ≡ Less) (keys_of es) → filter (λ (e : K × X). p e.0) es ≡ []
  none_past k [] n f a = refl
  none_past k (e ∷ es) n f a = let fails = r.past k e.0 n f a.0 in rw fails (none_past k es n f a.1)

  from_first : (e : K × X) (es : List (K × X)) → is_gt (cmp q e.0) ≡ false → IsStrictlySortedBy cmp (keys_of (e ∷ es)) → filter (λ (x : K × X). p x.0) (e ∷ es) ≡ take_while (λ (x : K × X). p x.0) (e ∷ es)
  unfolding IsStrictlySortedBy
  from_first e [] n s = by_test (p e.0) ∙ sym (take_while-cons (λ (x : K × X). p x.0) e [])
    where
      by_test : (b : Bool) → cond b (e ∷ []) [] ≡ cond b (e ∷ take_while (λ (x : K × X). p x.0) []) []
      by_test true = refl
      by_test false = refl
  from_first e (f ∷ es) n s =
      by_test (p e.0) refl (from_first f es (ap is_gt (below_higher o q e.0 f.0 s.0.0 n)) s.1) ∙ sym (take_while-cons (λ (x : K × X). p x.0) e (f ∷ es))
    where
      by_test : (b : Bool) → p e.0 ≡ b → filter (λ (x : K × X). p x.0) (f ∷ es) ≡ take_while (λ (x : K × X). p x.0) (f ∷ es) →
          cond b (e ∷ filter (λ (x : K × X). p x.0) (f ∷ es)) (filter (λ (x : K × X). p x.0) (f ∷ es)) ≡ cond b (e ∷ take_while (λ (x : K × X). p x.0) (f ∷ es)) []
      by_test true is rest = ap (λ l. e ∷ l) rest
      by_test false is rest = none_past e.0 (f ∷ es) n is s.0

  pub filter-run : (es : List (K × X)) → IsStrictlySortedBy cmp (keys_of es) → filter (λ (e : K × X). p e.0) es ≡ take_while (λ (e : K × X). p e.0) (drop (count_below cmp q es) es)
  unfolding IsStrictlySortedBy
  filter-run [] s = refl
  filter-run (e ∷ es) s = by_test (is_gt (cmp q e.0)) refl (filter-run es s.1)
    where
      greater : is_gt (cmp q e.0) ≡ true → cmp q e.0 ≡ Greater
      greater h = by_ordering (cmp q e.0) (λ l. absurd (true≢false (sym h ∙ ap is_gt l))) (λ l. absurd (true≢false (sym h ∙ ap is_gt l))) (λ l. l)

      by_test : (b : Bool) → is_gt (cmp q e.0) ≡ b → filter (λ (x : K × X). p x.0) es ≡ take_while (λ (x : K × X). p x.0) (drop (count_below cmp q es) es) →
          filter (λ (x : K × X). p x.0) (e ∷ es) ≡ take_while (λ (x : K × X). p x.0) (drop (cond b (count_below cmp q es + 1) 0) (e ∷ es))
      by_test true is rest = let fails = r.below e.0 (greater is) in rw (fails, add-one) rest
      by_test false is rest = from_first e es is s

  -- the first pair of a run, where there is one
  none_found : (es : List (K × X)) → filter (λ (e : K × X). p e.0) es ≡ [] → find (λ (e : K × X). p e.0) es ≡ None
  none_found [] h = refl
  none_found (e ∷ es) h = by_test (p e.0) h (none_found es)
    where
      by_test : (b : Bool) → cond b (e ∷ filter (λ (x : K × X). p x.0) es) (filter (λ (x : K × X). p x.0) es) ≡ [] → (filter (λ (x : K × X). p x.0) es ≡ [] → find (λ (x : K × X). p x.0) es ≡ None) → cond b (Some e) (find (λ (x : K × X). p x.0) es) ≡ None
      by_test true h rest = let none : ⊥ = cc in absurd none
      by_test false h rest = rest h

  pub find-run : (es : List (K × X)) → IsStrictlySortedBy cmp (keys_of es) → find (λ (e : K × X). p e.0) es ≡ option_filter (λ (e : K × X). p e.0) (first_at_least cmp q es)
  unfolding IsStrictlySortedBy
  find-run [] s = refl
  find-run (e ∷ es) s = by_test (is_gt (cmp q e.0)) refl (find-run es s.1)
    where
      greater : is_gt (cmp q e.0) ≡ true → cmp q e.0 ≡ Greater
      greater h = by_ordering (cmp q e.0) (λ l. absurd (true≢false (sym h ∙ ap is_gt l))) (λ l. absurd (true≢false (sym h ∙ ap is_gt l))) (λ l. l)

      first : is_gt (cmp q e.0) ≡ false → (b : Bool) → p e.0 ≡ b → cond b (Some e) (find (λ (x : K × X). p x.0) es) ≡ cond b (Some e) None
      first n true is = refl
      first n false is = none_found es (none_past e.0 es n is s.0)

      by_test : (b : Bool) → is_gt (cmp q e.0) ≡ b → find (λ (x : K × X). p x.0) es ≡ option_filter (λ (x : K × X). p x.0) (first_at_least cmp q es) →
          find (λ (x : K × X). p x.0) (e ∷ es) ≡ option_filter (λ (x : K × X). p x.0) (cond b (first_at_least cmp q es) (Some e))
      by_test true is rest = let fails = r.below e.0 (greater is) in rw fails rest
      by_test false is rest = first is (p e.0) refl

-- ---- a run read in chunks

module _ {X : Type 0} (p : X → Bool) where
  pub take_while-all : (xs more : List X) → list_all p xs ≡ true → take_while p (xs ++ more) ≡ xs ++ take_while p more
  take_while-all [] more h = refl
  take_while-all (x ∷ xs) more h = take_while-cons p x (xs ++ more) ∙ by_test (p x) h (take_while-all xs more)
    where
      by_test : (b : Bool) → (b && list_all p xs) ≡ true → (list_all p xs ≡ true → take_while p (xs ++ more) ≡ xs ++ take_while p more) →
          cond b (x ∷ take_while p (xs ++ more)) [] ≡ x ∷ (xs ++ take_while p more)
      by_test true h rest = ap (λ l. x ∷ l) (rest h)
      by_test false h rest = absurd (true≢false (sym h))

  pub take_while-part : (xs more : List X) → list_all p xs ≡ false → take_while p (xs ++ more) ≡ take_while p xs
  take_while-part [] more h = absurd (true≢false h)
  take_while-part (x ∷ xs) more h = take_while-cons p x (xs ++ more) ∙ by_test (p x) h (take_while-part xs more) ∙ sym (take_while-cons p x xs)
    where
      by_test : (b : Bool) → (b && list_all p xs) ≡ false → (list_all p xs ≡ false → take_while p (xs ++ more) ≡ take_while p xs) →
          cond b (x ∷ take_while p (xs ++ more)) [] ≡ cond b (x ∷ take_while p xs) []
      by_test true h rest = ap (λ l. x ∷ l) (rest h)
      by_test false h rest = refl

  take_while-whole : (xs : List X) → list_all p xs ≡ true → take_while p xs ≡ xs
  take_while-whole [] h = refl
  take_while-whole (x ∷ xs) h = take_while-cons p x xs ∙ by_test (p x) h (take_while-whole xs)
    where
      by_test : (b : Bool) → (b && list_all p xs) ≡ true → (list_all p xs ≡ true → take_while p xs ≡ xs) → cond b (x ∷ take_while p xs) [] ≡ x ∷ xs
      by_test true h rest = ap (λ l. x ∷ l) (rest h)
      by_test false h rest = absurd (true≢false (sym h))

  -- a chunk, pair by pair
  pub run_more : (xs : List X) (i : ℕ) (d : X) → i < length xs → p (get_or xs i d) ≡ true → take_while p (drop i xs) ≡ get_or xs i d ∷ take_while p (drop (i + 1) xs)
  run_more xs i d lt h =
      ap (take_while p) (drop_more xs i d lt)
      ∙ take_while-cons p (get_or xs i d) (drop (i + 1) xs)
      ∙ ap (λ b. cond b (get_or xs i d ∷ take_while p (drop (i + 1) xs)) []) h

  pub all_more : (xs : List X) (i : ℕ) (d : X) → i < length xs → p (get_or xs i d) ≡ true → list_all p (drop i xs) ≡ list_all p (drop (i + 1) xs)
  all_more xs i d lt h = ap (list_all p) (drop_more xs i d lt) ∙ ap (λ b. b && list_all p (drop (i + 1) xs)) h

  -- the chunk at a place is all of the run, and more may follow
  pub chunk_whole : (xs chunk : List X) (place : ℕ) → chunk ≡ take (length chunk) (drop place xs) → list_all p chunk ≡ true →
      take_while p (drop place xs) ≡ take_while p chunk ++ take_while p (drop (place + length chunk) xs)
  chunk_whole xs chunk place is all =
      ap (take_while p) (sym (take-append-drop (length chunk) (drop place xs)) ∙ ap (λ l. l ++ drop (length chunk) (drop place xs)) (sym is))
      ∙ take_while-all chunk (drop (length chunk) (drop place xs)) all
      ∙ ap (λ l. l ++ take_while p (drop (length chunk) (drop place xs))) (sym (take_while-whole chunk all))
      ∙ ap (λ l. take_while p chunk ++ take_while p l) (drop-drop (length chunk) place xs)

  -- the run ends in the chunk at a place
  pub chunk_part : (xs chunk : List X) (place : ℕ) → chunk ≡ take (length chunk) (drop place xs) → list_all p chunk ≡ false →
      take_while p (drop place xs) ≡ take_while p chunk
  chunk_part xs chunk place is part =
      ap (take_while p) (sym (take-append-drop (length chunk) (drop place xs)) ∙ ap (λ l. l ++ drop (length chunk) (drop place xs)) (sym is))
      ∙ take_while-part chunk (drop (length chunk) (drop place xs)) part

  -- nothing stands past the end
  pub chunk_none : (xs : List X) (place : ℕ) → length xs ≤ place → take_while p (drop place xs) ≡ []
  chunk_none xs place le = ap (take_while p) (drop_all place xs le)

-- ---- what a walk along a run puts at the end of a list

module _ {X Y : Type 0} (p : X → Bool) (f : X → Y) (out new : List Y) where
  -- pair by pair
  pub put-more : (xs : List X) (i : ℕ) (d : X) → i < length xs → p (get_or xs i d) ≡ true → new ≡ out ++ f (get_or xs i d) ∷ [] →
      new ++ map f (take_while p (drop (i + 1) xs)) ≡ out ++ map f (take_while p (drop i xs))
  put-more xs i d lt h is =
      ap (λ l. l ++ map f (take_while p (drop (i + 1) xs))) is
      ∙ append_assoc out (f (get_or xs i d) ∷ []) (map f (take_while p (drop (i + 1) xs)))
      ∙ ap (λ l. out ++ map f l) (sym (run_more p xs i d lt h))

  -- a chunk of which all is in the run
  pub put-whole : (xs chunk : List X) (place : ℕ) → chunk ≡ take (length chunk) (drop place xs) → list_all p chunk ≡ true → new ≡ out ++ map f (take_while p chunk) →
      new ++ map f (take_while p (drop (place + length chunk) xs)) ≡ out ++ map f (take_while p (drop place xs))
  put-whole xs chunk place at all is =
      ap (λ l. l ++ map f (take_while p (drop (place + length chunk) xs))) is
      ∙ append_assoc out (map f (take_while p chunk)) (map f (take_while p (drop (place + length chunk) xs)))
      ∙ ap (λ l. out ++ l) (sym (map-append f (take_while p chunk) (take_while p (drop (place + length chunk) xs))) ∙ ap (map f) (sym (chunk_whole p xs chunk place at all)))

  -- the chunk in which the run ends
  pub put-part : (xs chunk : List X) (place : ℕ) → chunk ≡ take (length chunk) (drop place xs) → list_all p chunk ≡ false → new ≡ out ++ map f (take_while p chunk) →
      new ≡ out ++ map f (take_while p (drop place xs))
  put-part xs chunk place at part is = is ∙ ap (λ l. out ++ map f l) (sym (chunk_part p xs chunk place at part))
