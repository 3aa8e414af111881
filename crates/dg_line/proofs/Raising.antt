-- What raised counters are: their counts, their order and their bound, and how a merge takes them one by
-- one from two lists in order.
use Rattle.std.proofs.Common.{◌≡◌, ℕ, zero, ◌+◌, ◌≤◌, Bool, true, false, cond, ◌||◌, List, [], ◌∷◌, ◌++◌, map, length, All, IsTrue, refl, sym, ap, ◌∙◌, subst, arith, append_assoc}
use Rattle.std.proofs.lemmas.Bool.{and_parts, and_from, or_from}
use Rattle.std.proofs.lemmas.List.{nil_from_length}
use Rattle.std.proofs.lemmas.List.Elements.{All-nil, All-cons, All-map, All-tail}
use Rattle.std.specs.List.{list_all}
use Rattle.std.specs.declared.cmp.Ordering.TheVariants.{Less, Equal, Greater}
use Rattle.dg_base.specs.declared.ids.Endpoint.{Endpoint}
use Rattle.dg_base.specs.declared.limits.TheConstants.{REVISIONS}
use Rattle.dg_base.specs.Same.{same_end}
use Rattle.dg_base.specs.Order.{is_end_among, is_end_before, put_end, ordered, ends_rise}
use Rattle.dg_laws.proofs.Among.{among-append, among_from_Contains, Contains_from_among}
use Rattle.dg_laws.proofs.Members.{list_all_at, list_all_from, map_same}
use Rattle.dg_laws.proofs.Ends.{same_end-is, same_end-itself, ends_tell, ends_rank, end_cmp}
use Rattle.dg_laws.proofs.Orders.{before_lower, ordered-rise, ordered-among, ordered-same}
use Rattle.dg_line.specs.declared.counters.Counted.{Counted}
use Rattle.dg_line.specs.Counts.{count_in, counted_ends, raised_count, raised_at, raised, IsAtMost}
use Rattle.dg_line.proofs.Splitting.{before-from_less, before-from_greater, end-from_equal, differs-after, count-other, count-itself, count-none, count-below_all}

-- ---- counts

count_of_map : (f : Endpoint → ℕ) (es : List Endpoint) (e : Endpoint) → count_in (map (λ x. record { at = x; count = f x }) es) e ≡ cond (is_end_among es e) (f e) 0
count_of_map f [] e = refl
count_of_map f (x ∷ es) e = by_test (same_end e x) refl (count_of_map f es e)
  where
    by_test : (a : Bool) → same_end e x ≡ a → count_in (map (λ z. record { at = z; count = f z }) es) e ≡ cond (is_end_among es e) (f e) 0 →
        cond a (f x) (count_in (map (λ z. record { at = z; count = f z }) es) e) ≡ cond (a || is_end_among es e) (f e) 0
    by_test true is more = ap f (sym (same_end-is e x is))
    by_test false is more = more

pub raised-counts : (cs : List Counted) (ds : List Endpoint) (e : Endpoint) → count_in (raised cs ds) e ≡ raised_count cs ds e
raised-counts cs ds e =
    count_of_map (raised_count cs ds) (ordered (counted_ends cs ++ ds)) e
    ∙ ap (λ b. cond b (raised_count cs ds e) 0) (ordered-among ends_rank (counted_ends cs ++ ds) e ∙ among-append ends_tell (counted_ends cs) ds e)
    ∙ by_tests (is_end_among (counted_ends cs) e) (is_end_among ds e) refl
  where
    by_tests : (a b : Bool) → is_end_among (counted_ends cs) e ≡ a → cond (a || b) (cond b (count_in cs e + 1) (count_in cs e)) 0 ≡ cond b (count_in cs e + 1) (count_in cs e)
    by_tests true b is = refl
    by_tests false true is = refl
    by_tests false false is = sym (count-none cs e is)

-- ---- order

ends_of_map : (f : Endpoint → ℕ) (es : List Endpoint) → counted_ends (map (λ x. record { at = x; count = f x }) es) ≡ es
ends_of_map f [] = refl
ends_of_map f (x ∷ es) = ap (λ xs. x ∷ xs) (ends_of_map f es)

pub raised-rise : (cs : List Counted) (ds : List Endpoint) → IsTrue (ends_rise (counted_ends (raised cs ds)))
raised-rise cs ds =
    ap ends_rise (ends_of_map (raised_count cs ds) (ordered (counted_ends cs ++ ds))) ∙ ordered-rise ends_rank (counted_ends cs ++ ds)

-- ---- the bound

All-first : (P : Counted → Type 0) (c : Counted) (cs : List Counted) → All P (c ∷ cs) → P c
All-first P c cs h = h zero c (omega arith)

count-at_most : (n : ℕ) (cs : List Counted) (e : Endpoint) → All (IsAtMost n) cs → count_in cs e ≤ n
count-at_most n [] e h = omega arith
count-at_most n (c ∷ cs) e h = by_test (same_end e c.at) (All-first (IsAtMost n) c cs h) (count-at_most n cs e (All-tail (IsAtMost n) c cs h))
  where
    by_test : (b : Bool) → c.count ≤ n → count_in cs e ≤ n → cond b c.count (count_in cs e) ≤ n
    by_test true le more = le
    by_test false le more = more

pub raised-at_most : (n : ℕ) (cs : List Counted) (ds : List Endpoint) → All (IsAtMost n) cs → All (IsAtMost (n + 1)) (raised cs ds)
raised-at_most n cs ds h = All-map (IsAtMost (n + 1)) (raised_at cs ds) (ordered (counted_ends cs ++ ds)) (each (ordered (counted_ends cs ++ ds)))
  where
    one : (e : Endpoint) → raised_count cs ds e ≤ n + 1
    one e = by_test (is_end_among ds e) (count-at_most n cs e h)
      where
        by_test : (b : Bool) → count_in cs e ≤ n → cond b (count_in cs e + 1) (count_in cs e) ≤ n + 1
        by_test true le = omega (arith, le)
        by_test false le = omega (arith, le)

    each : (es : List Endpoint) → All (λ e. IsAtMost (n + 1) (raised_at cs ds e)) es
    each [] = All-nil (λ e. IsAtMost (n + 1) (raised_at cs ds e))
    each (e ∷ es) = All-cons (λ e. IsAtMost (n + 1) (raised_at cs ds e)) e es (one e) (each es)

-- ---- a merge of two lists in order

absent_below : (x : Endpoint) (es : List Endpoint) → list_all (is_end_before x) es ≡ true → is_end_among es x ≡ false
absent_below x [] h = refl
absent_below x (y ∷ es) h =
    let both = and_parts (is_end_before x y) (list_all (is_end_before x) es) h in
    or_from _ _ (ends_rank.apart x y both.0) (absent_below x es both.1)

put_first : (x : Endpoint) (es : List Endpoint) → list_all (is_end_before x) es ≡ true → put_end x es ≡ x ∷ es
put_first x [] h = refl
put_first x (y ∷ es) h =
    let both = and_parts (is_end_before x y) (list_all (is_end_before x) es) h in
    ap (λ b. cond b (y ∷ es) (cond (is_end_before x y) (x ∷ y ∷ es) (y ∷ put_end x es))) (ends_rank.apart x y both.0)
    ∙ ap (λ b. cond b (x ∷ y ∷ es) (y ∷ put_end x es)) both.0

ordered_all : (p : Endpoint → Bool) (es : List Endpoint) → list_all p es ≡ true → list_all p (ordered es) ≡ true
ordered_all p es h =
    list_all_from p (ordered es) (λ x there.
    list_all_at p es x h (Contains_from_among ends_tell es x (sym (ordered-among ends_rank es x) ∙ among_from_Contains ends_tell (ordered es) x there)))

all_append : (p : Endpoint → Bool) (xs ys : List Endpoint) → list_all p xs ≡ true → list_all p ys ≡ true → list_all p (xs ++ ys) ≡ true
all_append p [] ys h k = k
all_append p (x ∷ xs) ys h k =
    let both = and_parts (p x) (list_all p xs) h in
    and_from _ _ both.0 (all_append p xs ys both.1 k)

-- an endpoint before all that is left comes first
first_taken : (x : Endpoint) (all cs : List Counted) (ends ds : List Endpoint) → list_all (is_end_before x) (counted_ends cs ++ ds) ≡ true →
    ((e : Endpoint) → is_end_among (counted_ends all ++ ends) e ≡ is_end_among (x ∷ (counted_ends cs ++ ds)) e) →
    ((e : Endpoint) → is_end_before x e ≡ true → raised_count all ends e ≡ raised_count cs ds e) →
    raised all ends ≡ raised_at all ends x ∷ raised cs ds
first_taken x all cs ends ds first members counts =
    ap (map (raised_at all ends))
    (ordered-same ends_rank (counted_ends all ++ ends) (x ∷ (counted_ends cs ++ ds)) members
    ∙ put_first x (ordered (counted_ends cs ++ ds)) (ordered_all (is_end_before x) (counted_ends cs ++ ds) first))
    ∙ ap (λ es. raised_at all ends x ∷ es)
    (map_same (raised_at all ends) (raised_at cs ds) (ordered (counted_ends cs ++ ds)) (λ e there.
    ap (λ (n : ℕ). counted e n) (counts e (list_all_at (is_end_before x) (ordered (counted_ends cs ++ ds)) e (ordered_all (is_end_before x) (counted_ends cs ++ ds) first) there))))
  where
    counted : Endpoint → ℕ → Counted
    counted e n = record { at = e; count = n }

-- one that is counted alone, one that is new alone, and one that is both
pub merge-counted : (c : Counted) (cs : List Counted) (ds : List Endpoint) → list_all (is_end_before c.at) (counted_ends cs) ≡ true → list_all (is_end_before c.at) ds ≡ true →
    raised (c ∷ cs) ds ≡ c ∷ raised cs ds
merge-counted c cs ds h k =
    first_taken c.at (c ∷ cs) cs ds ds (all_append (is_end_before c.at) (counted_ends cs) ds h k) (λ e. refl)
    (λ e lt. ap (λ n. cond (is_end_among ds e) (n + 1) n) (count-other c cs e (differs-after c.at e lt)))
    ∙ ap (λ (n : ℕ). record { at = c.at; count = n } ∷ raised cs ds)
    (ap (λ b. cond b (count_in (c ∷ cs) c.at + 1) (count_in (c ∷ cs) c.at)) (absent_below c.at ds k) ∙ count-itself c cs)

pub merge-new : (cs : List Counted) (d : Endpoint) (ds : List Endpoint) → list_all (is_end_before d) (counted_ends cs) ≡ true → list_all (is_end_before d) ds ≡ true →
    raised cs (d ∷ ds) ≡ record { at = d; count = 1 } ∷ raised cs ds
merge-new cs d ds h k =
    first_taken d cs cs (d ∷ ds) ds (all_append (is_end_before d) (counted_ends cs) ds h k)
    (λ e. among-append ends_tell (counted_ends cs) (d ∷ ds) e ∙ or_swap (is_end_among (counted_ends cs) e) (same_end e d) (is_end_among ds e)
    ∙ ap (λ b. same_end e d || b) (sym (among-append ends_tell (counted_ends cs) ds e)))
    (λ e lt. ap (λ b. cond (b || is_end_among ds e) (count_in cs e + 1) (count_in cs e)) (differs-after d e lt))
    ∙ ap (λ (n : ℕ). record { at = d; count = n } ∷ raised cs ds)
    (ap (λ b. cond (b || is_end_among ds d) (count_in cs d + 1) (count_in cs d)) (same_end-itself d) ∙ ap (λ n. n + 1) (count-below_all cs d h))
  where
    or_swap : (a b c : Bool) → (a || (b || c)) ≡ (b || (a || c))
    or_swap true true c = refl
    or_swap true false c = refl
    or_swap false b c = refl

pub merge-both : (c : Counted) (cs : List Counted) (ds : List Endpoint) → list_all (is_end_before c.at) (counted_ends cs) ≡ true → list_all (is_end_before c.at) ds ≡ true →
    raised (c ∷ cs) (c.at ∷ ds) ≡ record { at = c.at; count = c.count + 1 } ∷ raised cs ds
merge-both c cs ds h k =
    first_taken c.at (c ∷ cs) cs (c.at ∷ ds) ds (all_append (is_end_before c.at) (counted_ends cs) ds h k)
    (λ e. ap (λ b. same_end e c.at || b) (among-append ends_tell (counted_ends cs) (c.at ∷ ds) e) ∙ or_again (same_end e c.at) (is_end_among (counted_ends cs) e) (is_end_among ds e)
    ∙ ap (λ b. same_end e c.at || b) (sym (among-append ends_tell (counted_ends cs) ds e)))
    (λ e lt. ap (λ b. cond (b || is_end_among ds e) (count_in (c ∷ cs) e + 1) (count_in (c ∷ cs) e)) (differs-after c.at e lt)
    ∙ ap (λ n. cond (is_end_among ds e) (n + 1) n) (count-other c cs e (differs-after c.at e lt)))
    ∙ ap (λ (n : ℕ). record { at = c.at; count = n } ∷ raised cs ds)
    (ap (λ b. cond (b || is_end_among ds c.at) (count_in (c ∷ cs) c.at + 1) (count_in (c ∷ cs) c.at)) (same_end-itself c.at) ∙ ap (λ n. n + 1) (count-itself c cs))
  where
    or_again : (a b c : Bool) → (a || (b || (a || c))) ≡ (a || (b || c))
    or_again true b c = refl
    or_again false b c = refl

-- what was taken so far, and then what is left of both lists
abbrev pub IsMerged : List Counted → List Counted → List Endpoint → List Counted → Type 0
IsMerged out left new whole = (out ++ raised left new ≡ whole) × IsTrue (ends_rise (counted_ends left)) × IsTrue (ends_rise new) × All (IsAtMost REVISIONS) left

module _ (out pushed whole : List Counted) where
  taken : (x : Counted) (left cs : List Counted) (new ds : List Endpoint) → pushed ≡ out ++ x ∷ [] → out ++ raised left new ≡ whole → raised left new ≡ x ∷ raised cs ds →
      pushed ++ raised cs ds ≡ whole
  taken x left cs new ds push so_far is =
      ap (λ xs. xs ++ raised cs ds) push ∙ append_assoc out (x ∷ []) (raised cs ds) ∙ ap (λ xs. out ++ xs) (sym is) ∙ so_far

  counted_first : (c : Counted) (cs : List Counted) (new : List Endpoint) → IsMerged out (c ∷ cs) new whole → list_all (is_end_before c.at) new ≡ true →
      pushed ≡ out ++ c ∷ [] → IsMerged pushed cs new whole
  counted_first c cs new m first push =
      let both = and_parts (list_all (is_end_before c.at) (counted_ends cs)) (ends_rise (counted_ends cs)) m.1 in
      (taken c (c ∷ cs) cs new new push m.0 (merge-counted c cs new both.0 first), both.1, m.2, All-tail (IsAtMost REVISIONS) c cs m.3)

  new_first : (left : List Counted) (d : Endpoint) (ds : List Endpoint) → IsMerged out left (d ∷ ds) whole → list_all (is_end_before d) (counted_ends left) ≡ true →
      pushed ≡ out ++ record { at = d; count = 1 } ∷ [] → IsMerged pushed left ds whole
  new_first left d ds m first push =
      let both = and_parts (list_all (is_end_before d) ds) (ends_rise ds) m.2 in
      (taken (record { at = d; count = 1 }) left left (d ∷ ds) ds push m.0 (merge-new left d ds first both.0), m.1, both.1, m.3)

  module _ (left : List Counted) (new : List Endpoint) (m : IsMerged out left new whole) where
    pub merged-last_counted : (c : Counted) (cs : List Counted) → left ≡ c ∷ cs → length new ≡ 0 → pushed ≡ out ++ c ∷ [] → IsMerged pushed cs new whole
    merged-last_counted c cs is none push =
        counted_first c cs new (subst (λ (l : List Counted). IsMerged out l new whole) is m) (ap (list_all (is_end_before c.at)) (nil_from_length new none)) push

    pub merged-last_new : (d : Endpoint) (ds : List Endpoint) → length left ≡ 0 → new ≡ d ∷ ds → pushed ≡ out ++ record { at = d; count = 1 } ∷ [] → IsMerged pushed left ds whole
    merged-last_new d ds none is push =
        new_first left d ds (subst (λ (n : List Endpoint). IsMerged out left n whole) is m) (ap (λ (l : List Counted). list_all (is_end_before d) (counted_ends l)) (nil_from_length left none)) push

    module _ (c : Counted) (cs : List Counted) (d : Endpoint) (ds : List Endpoint) (is_left : left ≡ c ∷ cs) (is_new : new ≡ d ∷ ds) where
      split : IsMerged out (c ∷ cs) (d ∷ ds) whole
      split = subst (λ (n : List Endpoint). IsMerged out (c ∷ cs) n whole) is_new (subst (λ (l : List Counted). IsMerged out l new whole) is_left m)

      new_above : is_end_before c.at d ≡ true → list_all (is_end_before c.at) (d ∷ ds) ≡ true
      new_above lt = and_from _ _ lt (before_lower ends_rank c.at d ds lt (and_parts (list_all (is_end_before d) ds) (ends_rise ds) split.2).0)

      counted_above : is_end_before d c.at ≡ true → list_all (is_end_before d) (counted_ends (c ∷ cs)) ≡ true
      counted_above lt =
          and_from _ _ lt (before_lower ends_rank d c.at (counted_ends cs) lt (and_parts (list_all (is_end_before c.at) (counted_ends cs)) (ends_rise (counted_ends cs)) split.1).0)

      pub merged-counted : end_cmp c.at d ≡ Less → pushed ≡ out ++ c ∷ [] → IsMerged pushed cs new whole
      merged-counted less push =
          subst (λ (n : List Endpoint). IsMerged pushed cs n whole) (sym is_new) (counted_first c cs (d ∷ ds) split (new_above (before-from_less c.at d less)) push)

      pub merged-new : end_cmp c.at d ≡ Greater → pushed ≡ out ++ record { at = d; count = 1 } ∷ [] → IsMerged pushed left ds whole
      merged-new more push =
          subst (λ (l : List Counted). IsMerged pushed l ds whole) (sym is_left) (new_first (c ∷ cs) d ds split (counted_above (before-from_greater c.at d more)) push)

      pub merged-both : end_cmp c.at d ≡ Equal → pushed ≡ out ++ record { at = d; count = c.count + 1 } ∷ [] → IsMerged pushed cs ds whole
      merged-both equal push =
          let at : c.at ≡ d = end-from_equal c.at d equal in
          let counted = and_parts (list_all (is_end_before c.at) (counted_ends cs)) (ends_rise (counted_ends cs)) split.1 in
          let new = and_parts (list_all (is_end_before d) ds) (ends_rise ds) split.2 in
          let above : list_all (is_end_before c.at) ds ≡ true = subst (λ (x : Endpoint). list_all (is_end_before x) ds ≡ true) (sym at) new.0 in
          let is : raised (c ∷ cs) (d ∷ ds) ≡ record { at = d; count = c.count + 1 } ∷ raised cs ds =
          subst (λ (x : Endpoint). raised (c ∷ cs) (x ∷ ds) ≡ record { at = x; count = c.count + 1 } ∷ raised cs ds) at (merge-both c cs ds counted.0 above) in
          (taken (record { at = d; count = c.count + 1 }) (c ∷ cs) cs (d ∷ ds) ds push split.0 is, counted.1, new.1, All-tail (IsAtMost REVISIONS) c cs split.3)
