-- A walk along pairs, where each endpoint that is met is put at the end of a list once.
use Rattle.std.proofs.Common.{◌≡◌, ℕ, zero, suc, ◌+◌, ◌≤◌, ◌<◌, Bool, true, false, cond, ◌&&◌, ◌||◌, if◌then◌else◌, List, [], ◌∷◌, ◌++◌, length, take, drop, map, filter, slice_get, get_or, Some, refl, sym, ap, ◌∙◌, subst, inl, inr, arith, append-nil, append_assoc, length-append, nat_cmp, true≢false}
use Rattle.std.proofs.Math.Bool.{or-false}
use Rattle.std.proofs.lemmas.Bool.{or_cases, or_left, or_right}
use Rattle.std.proofs.lemmas.List.{length-map, map-append, take_more, take_all, take-append-le}
use Rattle.std.proofs.lemmas.Map.Made.{length-le_from_is_member}
use Rattle.std.proofs.lemmas.Bool.Decides.{nat_tests}
use Rattle.std.specs.List.{list_all, take_while, IsDistinct}
use Rattle.std.specs.List.Sorted.{IsStrictlySortedBy}
use Rattle.std.specs.Map.{keys_of}
use Rattle.std.specs.Ordering.{is_gt, ordering_then}
use Rattle.std.specs.declared.cmp.Ordering.{Ordering}
use Rattle.std.specs.declared.cmp.Ordering.TheVariants.{Less, Equal, Greater}
use Rattle.indexmap.specs.IndexSet.{insert_key, insert_all}
use Rattle.dg_base.specs.declared.ids.Endpoint.{Endpoint}
use Rattle.dg_base.specs.Same.{same_end}
use Rattle.dg_base.specs.Order.{is_end_among}
use Rattle.dg_laws.proofs.Among.{Tells, is_among, among-append, among-push}
use Rattle.dg_laws.proofs.Ends.{end_cmp, ends_tell, ends_compare}
use Rattle.dg_pmap.specs.Places.{count_below}
use Rattle.dg_pmap.proofs.Runs.{IsRun, run-of_part, filter-run, run_more, chunk_whole, chunk_part}
use Rattle.dg_succ.specs.Pairs.{Pair, same_pair, is_pair_among}
use Rattle.dg_succ.specs.Closure.{IsWithin, Follows}
use Rattle.dg_succ.specs.Walked.{ends_of, begins_at, end_of, ends_after, IsLeastFound, IsWalked}
use Rattle.dg_succ.proofs.PairOrder.{pair_cmp, pairs_compare}

-- ---- a list to which each new one is put

module _ {X : Type 0} {same : X → X → Bool} (t : Tells same) where
  among-insert_key : (xs : List X) (x q : X) → is_among same (insert_key same xs x) q ≡ (is_among same xs q || same q x)
  among-insert_key xs x q = by_there (is_among same xs x) refl
    where
      by_same : is_among same xs x ≡ true → (b : Bool) → same q x ≡ b → is_among same xs q ≡ (is_among same xs q || b)
      by_same there true is = let here : is_among same xs q ≡ true = ap (is_among same xs) (t.is q x is) ∙ there in here ∙ sym (or_right (is_among same xs q) true refl)
      by_same there false is = sym (or-false (is_among same xs q))

      by_there : (b : Bool) → is_among same xs x ≡ b → is_among same (if b then xs else xs ++ x ∷ []) q ≡ (is_among same xs q || same q x)
      by_there true is = by_same is (same q x) refl
      by_there false is = among-push t xs x q

  pub among-insert_all : (xs ys : List X) (q : X) → is_among same (insert_all same xs ys) q ≡ (is_among same xs q || is_among same ys q)
  among-insert_all xs [] q = sym (or-false (is_among same xs q))
  among-insert_all xs (y ∷ ys) q =
      among-insert_all (insert_key same xs y) ys q
      ∙ ap (λ b. b || is_among same ys q) (among-insert_key xs y q)
      ∙ three (is_among same xs q) (same q y) (is_among same ys q)
    where
      three : (a b c : Bool) → ((a || b) || c) ≡ (a || (b || c))
      three true b c = refl
      three false b c = refl

  begins-insert_key : (xs : List X) (x : X) → (more : List X) × (insert_key same xs x ≡ xs ++ more)
  begins-insert_key xs x = by_there (is_among same xs x)
    where
      by_there : (b : Bool) → (more : List X) × ((if b then xs else xs ++ x ∷ []) ≡ xs ++ more)
      by_there true = ([], sym (append-nil xs))
      by_there false = (x ∷ [], refl)

  begins-insert_all : (xs ys : List X) → (more : List X) × (insert_all same xs ys ≡ xs ++ more)
  begins-insert_all xs [] = ([], sym (append-nil xs))
  begins-insert_all xs (y ∷ ys) =
      let one = begins-insert_key xs y in
      let rest = begins-insert_all (insert_key same xs y) ys in
      (one.0 ++ rest.0, rest.1 ∙ ap (λ l. l ++ rest.0) one.1 ∙ append_assoc xs one.0 rest.0)

  -- what was there stays in front
  pub take-insert_all : (n : ℕ) (xs ys : List X) → n ≤ length xs → take n (insert_all same xs ys) ≡ take n xs
  take-insert_all n xs ys le = let b = begins-insert_all xs ys in ap (take n) b.1 ∙ take-append-le n xs b.0 le

  got : (xs : List X) (n : ℕ) (x : X) → slice_get xs n ≡ Some x → get_or xs n x ≡ x
  got [] n x at = refl
  got (y ∷ ys) zero x at = let same_one : y ≡ x = cc in same_one
  got (y ∷ ys) (suc n) x at = got ys n x at

  pub among-got : (xs : List X) (n : ℕ) (x : X) → slice_get xs n ≡ Some x → is_among same xs x ≡ true
  among-got [] n x at = let none : ⊥ = cc in absurd none
  among-got (y ∷ ys) zero x at = or_left _ _ (let one : y ≡ x = cc in ap (same x) one ∙ t.itself x)
  among-got (y ∷ ys) (suc n) x at = or_right (same x y) _ (among-got ys n x at)

  pub among-take : (xs : List X) (n : ℕ) (x q : X) → n < length xs → slice_get xs n ≡ Some x → is_among same (take (n + 1) xs) q ≡ (is_among same (take n xs) q || same q x)
  among-take xs n x q below at =
      ap (λ l. is_among same l q) (take_more xs n x below ∙ ap (λ y. take n xs ++ y ∷ []) (got xs n x at)) ∙ among-push t (take n xs) x q

  pub insert_all-append : (ks xs ys : List X) → insert_all same ks (xs ++ ys) ≡ insert_all same (insert_all same ks xs) ys
  insert_all-append ks [] ys = refl
  insert_all-append ks (x ∷ xs) ys = insert_all-append (insert_key same ks x) xs ys

-- ---- where pairs end

-- a chunk of pairs, one by one
pub chunk-next : (ks new : List Endpoint) (here : Endpoint) (run : List (Pair × Unit {0})) (i : ℕ) (d : Pair × Unit {0}) → i < length run → begins_at here (get_or run i d) ≡ true →
    new ≡ insert_key same_end ks (end_of (get_or run i d)) → insert_all same_end new (ends_after here (drop (i + 1) run)) ≡ insert_all same_end ks (ends_after here (drop i run))
chunk-next ks new here run i d lt begins is =
    ap (λ l. insert_all same_end l (ends_after here (drop (i + 1) run))) is
    ∙ ap (λ (es : List (Pair × Unit {0})). insert_all same_end ks (map end_of es)) (sym (run_more (begins_at here) run i d lt begins))

-- the chunk at a place, where all of its pairs begin here, and where the run ends in it
pub run-whole : (ks new : List Endpoint) (here : Endpoint) (es chunk : List (Pair × Unit {0})) (place : ℕ) → chunk ≡ take (length chunk) (drop place es) → list_all (begins_at here) chunk ≡ true →
    new ≡ insert_all same_end ks (ends_after here chunk) → insert_all same_end new (ends_after here (drop (place + length chunk) es)) ≡ insert_all same_end ks (ends_after here (drop place es))
run-whole ks new here es chunk place at all is =
    ap (λ l. insert_all same_end l (ends_after here (drop (place + length chunk) es))) is
    ∙ sym (insert_all-append ends_tell ks (ends_after here chunk) (ends_after here (drop (place + length chunk) es)))
    ∙ ap (insert_all same_end ks) (sym (map-append end_of (take_while (begins_at here) chunk) _) ∙ ap (map end_of) (sym (chunk_whole (begins_at here) es chunk place at all)))

pub run-part : (ks new : List Endpoint) (here : Endpoint) (es chunk : List (Pair × Unit {0})) (place : ℕ) → chunk ≡ take (length chunk) (drop place es) → list_all (begins_at here) chunk ≡ false →
    new ≡ insert_all same_end ks (ends_after here chunk) → new ≡ insert_all same_end ks (ends_after here (drop place es))
run-part ks new here es chunk place at part is = is ∙ ap (λ (l : List (Pair × Unit {0})). insert_all same_end ks (map end_of l)) (sym (chunk_part (begins_at here) es chunk place at part))

-- the pairs that begin here are a run
abbrev pub first_end : Endpoint
first_end = record { node = record { 0 = 0 }; label = record { 0 = 0 } }

not_above_zero : (n : ℕ) → is_gt (nat_cmp 0 n) ≡ false
not_above_zero n = grind (arith, nat_tests)

first-least : (e : Endpoint) → is_gt (end_cmp first_end e) ≡ false
first-least e = by_parts (nat_cmp 0 e.node.0) (nat_cmp 0 e.label.0) (not_above_zero e.node.0) (not_above_zero e.label.0)
  where
    by_parts : (r s : Ordering) → is_gt r ≡ false → is_gt s ≡ false → is_gt (ordering_then r s) ≡ false
    by_parts Less s h k = refl
    by_parts Equal s h k = k
    by_parts Greater s h k = h

begin-run : (here : Endpoint) → IsRun pair_cmp (here, first_end) (λ p. same_end here p.0)
begin-run here = run-of_part ends_compare.total (λ (p : Pair). p.0) (λ (p q : Pair). end_cmp p.1 q.1) (λ p q. refl) (here, first_end) (λ p. first-least p.1) (λ p. same_end here p.0) (λ p. sym (ends_compare.tells_same here p.0))

ends-of_keys : (here : Endpoint) (es : List (Pair × Unit {0})) → map end_of (filter (begins_at here) es) ≡ ends_of (keys_of es) here
ends-of_keys here [] = refl
ends-of_keys here (e ∷ es) = by_test (same_end here e.0.0) (ends-of_keys here es)
  where
    by_test : (b : Bool) → map end_of (filter (begins_at here) es) ≡ ends_of (keys_of es) here →
        map end_of (cond b (e ∷ filter (begins_at here) es) (filter (begins_at here) es))
        ≡ map (λ (p : Pair). p.1) (cond b (e.0 ∷ filter (λ (p : Pair). same_end here p.0) (keys_of es)) (filter (λ (p : Pair). same_end here p.0) (keys_of es)))
    by_test true rest = ap (λ l. e.0.1 ∷ l) rest
    by_test false rest = rest

pub ends-found : (here : Endpoint) (es : List (Pair × Unit {0})) → IsStrictlySortedBy pair_cmp (keys_of es) → ends_after here (drop (count_below pair_cmp (here, first_end) es) es) ≡ ends_of (keys_of es) here
ends-found here es s = ap (map end_of) (sym (filter-run pairs_compare.total (here, first_end) (λ p. same_end here p.0) (begin-run here) es s)) ∙ ends-of_keys here es

pub among-ends_of : (ps : List Pair) (here e : Endpoint) → is_end_among (ends_of ps here) e ≡ is_pair_among ps (here, e)
among-ends_of [] here e = refl
among-ends_of (p ∷ ps) here e = by_test (same_end here p.0) (among-ends_of ps here e)
  where
    by_test : (b : Bool) → is_end_among (ends_of ps here) e ≡ is_pair_among ps (here, e) →
        is_end_among (map (λ q. q.1) (cond b (p ∷ filter (λ q. same_end here q.0) ps) (filter (λ q. same_end here q.0) ps))) e ≡ ((b && same_end e p.1) || is_pair_among ps (here, e))
    by_test true rest = ap (λ b. same_end e p.1 || b) rest
    by_test false rest = rest

among-all_ends : (ps : List Pair) (d e : Endpoint) → is_pair_among ps (d, e) ≡ true → is_end_among (map (λ p. p.1) ps) e ≡ true
among-all_ends [] d e h = h
among-all_ends (p ∷ ps) d e h =
    elim (or_cases (same_pair (d, e) p) (is_pair_among ps (d, e)) h) [
      | inl here ↦ or_left _ _ (ends_here (same_end d p.0) (same_end e p.1) here)
      | inr rest ↦ or_right (same_end e p.1) _ (among-all_ends ps d e rest)
    ]
  where
    ends_here : (a b : Bool) → (a && b) ≡ true → b ≡ true
    ends_here true b h = h
    ends_here false b h = absurd (true≢false (sym h))

-- ---- the walk

module _ {ps : List Pair} {from : List Endpoint} where
  pub walked-first : (start es : List Endpoint) → start ≡ [] → es ≡ insert_all same_end start from → IsWalked ps from es 0
  walked-first start es none is = record {
    holds = λ e h. same e ∙ h;
    gone_on = λ d e h p. absurd (true≢false (sym h));
    least = λ fs w f e h. w e (sym (same e) ∙ h);
  }
    where
      same : (e : Endpoint) → is_end_among es e ≡ is_end_among from e
      same e = ap (λ l. is_end_among l e) (is ∙ ap (λ l. insert_all same_end l from) none) ∙ among-insert_all ends_tell [] from e

  pub walked-next : (es new : List Endpoint) (place : ℕ) (here : Endpoint) → IsWalked ps from es place → place < length es → slice_get es place ≡ Some here →
      new ≡ insert_all same_end es (ends_of ps here) → IsWalked ps from new (place + 1)
  walked-next es new place here s below at is = record {
    holds = λ e h. stays e (s.holds e h);
    gone_on = λ d e h p.
        elim (or_cases (is_end_among (take place es) d) (same_end d here) (sym (seen d) ∙ h)) [
          | inl before ↦ stays e (s.gone_on d e before p)
          | inr now ↦ comes e (ap (λ (z : Endpoint). is_pair_among ps (z, e)) (sym (ends_tell.is d here now)) ∙ p)
        ];
    least = λ fs w f e h.
        elim (or_cases (is_end_among es e) (is_end_among (ends_of ps here) e) (sym (same e) ∙ h)) [
          | inl before ↦ s.least fs w f e before
          | inr now ↦ f here e (sym (among-ends_of ps here e) ∙ now) (s.least fs w f here (among-got ends_tell es place here at))
        ];
  }
    where
      same : (e : Endpoint) → is_end_among new e ≡ (is_end_among es e || is_end_among (ends_of ps here) e)
      same e = ap (λ l. is_end_among l e) is ∙ among-insert_all ends_tell es (ends_of ps here) e

      stays : (e : Endpoint) → is_end_among es e ≡ true → is_end_among new e ≡ true
      stays e h = same e ∙ or_left _ _ h

      comes : (e : Endpoint) → is_pair_among ps (here, e) ≡ true → is_end_among new e ≡ true
      comes e h = same e ∙ or_right (is_end_among es e) _ (among-ends_of ps here e ∙ h)

      seen : (d : Endpoint) → is_end_among (take (place + 1) new) d ≡ (is_end_among (take place es) d || same_end d here)
      seen d =
          ap (λ l. is_end_among (take (place + 1) l) d) is
          ∙ ap (λ l. is_end_among l d) (take-insert_all ends_tell (place + 1) es (ends_of ps here) (omega (arith, below)))
          ∙ among-take ends_tell es place here d below at

  pub walked-end : (es : List Endpoint) (place : ℕ) → IsWalked ps from es place → length es ≤ place → IsLeastFound ps from es
  walked-end es place s le = record {
    holds = s.holds;
    closed = λ e f p h. s.gone_on e f (ap (λ l. is_end_among l e) (take_all place es le) ∙ h) p;
    least = s.least;
  }

  -- no more are met than there are endpoints to begin with and pairs
  pub few : (es : List Endpoint) (place : ℕ) → IsWalked ps from es place → IsDistinct same_end es → length es ≤ length from + length ps
  few es place s once =
      let most : length es ≤ length (from ++ map (λ p. p.1) ps) = length-le_from_is_member ends_compare.equivalence es _ once (s.least (from ++ map (λ p. p.1) ps) begun followed) in
      let whole : length (from ++ map (λ p. p.1) ps) ≡ length from + length ps = length-append from _ ∙ ap (λ n. length from + n) (length-map ps _) in
      subst (λ n. length es ≤ n) whole most
    where
      begun : IsWithin from (from ++ map (λ p. p.1) ps)
      begun e h = among-append ends_tell from _ e ∙ or_left _ _ h

      followed : Follows ps (from ++ map (λ p. p.1) ps)
      followed e f p h = among-append ends_tell from _ f ∙ or_right (is_end_among from f) _ (among-all_ends ps e f p)
