-- Lists in order, each member once: what putting one into its place keeps, when two such lists are one,
-- and that a sort and a removal of equal neighbours give `ordered_by`.
use Rattle.std.proofs.Common.{◌≡◌, zero, suc, ◌+◌, ◌≤◌, ◌⊎◌, Bool, true, false, cond, ◌||◌, List, [], ◌∷◌, ◌++◌, length, get_or, AllPairs, IsPermutation, IsSorted, IsTrue, is_lt, is_eq, refl, sym, ap, ◌∙◌, subst, inl, inr, arith, true≢false}
use Rattle.std.proofs.lemmas.Bool.{and_parts, and_from, or_left, or_from, cases_Bool, false_from_ne_true}
use Rattle.std.proofs.lemmas.List.Filters.{dedup_is}
use Rattle.std.proofs.lemmas.List.Kept.{AllPairs-cons, IsStrictlySortedBy-dedup, Contains-dedup, Contains-from_dedup}
use Rattle.std.proofs.lemmas.List.Sorted.{Contains-permutation, IsPermutation-sym}
use Rattle.std.proofs.lemmas.List.Sums.{AllPass-from_list_all, list_all-from_AllPass}
use Rattle.std.specs.Cmp.{IsTotalOrder, IsEquivalence}
use Rattle.std.specs.List.{AllByRecursion, dedup, list_all}
use Rattle.std.specs.List.Sorted.{IsStrictlySortedBy}
use Rattle.std.specs.List.Retain.{IsFiltered, DiffersFromLast}
use Rattle.std.specs.declared.cmp.Ordering.TheVariants.{Less}
use Rattle.std.specs.declared.cmp.Ordering.{Ordering}
use Rattle.dg_base.specs.Order.{put_by, ordered_by, rise_by}
use Rattle.dg_laws.proofs.Among.{Tells, is_among, among-append, among-same}

-- of any two, they are the same or one is before the other
pub record Ranks {X : Type 0} (same before : X → X → Bool) : Type 0 where
  pub tells : Tells same
  pub compared : (a b : X) → ((same a b ≡ true) ⊎ (before a b ≡ true)) ⊎ (before b a ≡ true)
  pub apart : (a b : X) → before a b ≡ true → same a b ≡ false
  pub trans : (a b c : X) → before a b ≡ true → before b c ≡ true → before a c ≡ true

or_turned : (a b : Bool) → (a || b) ≡ (b || a)
or_turned true true = refl
or_turned true false = refl
or_turned false true = refl
or_turned false false = refl

or_again : (a b : Bool) → (a || b) ≡ (a || (a || b))
or_again true b = refl
or_again false b = refl

or_swap : (a b c : Bool) → (a || (b || c)) ≡ (b || (a || c))
or_swap true true c = refl
or_swap true false c = refl
or_swap false b c = refl

module _ {X : Type 0} {same before : X → X → Bool} (r : Ranks same before) where
  pub before-itself : (a : X) → before a a ≡ false
  before-itself a = false_from_ne_true (before a a) (λ h. true≢false (sym (r.tells.itself a) ∙ r.apart a a h))

  before_none : (a : X) (xs : List X) → list_all (before a) xs ≡ true → is_among same xs a ≡ false
  before_none a [] h = refl
  before_none a (x ∷ xs) h =
      let both = and_parts (before a x) (list_all (before a) xs) h in
      or_from _ _ (r.apart a x both.0) (before_none a xs both.1)

  pub before_lower : (a b : X) (xs : List X) → before a b ≡ true → list_all (before b) xs ≡ true → list_all (before a) xs ≡ true
  before_lower a b [] lt h = refl
  before_lower a b (x ∷ xs) lt h =
      let both = and_parts (before b x) (list_all (before b) xs) h in
      and_from _ _ (r.trans a b x lt both.0) (before_lower a b xs lt both.1)

  lower_absent : (a b : X) (xs : List X) → before a b ≡ true → list_all (before b) xs ≡ true → is_among same (b ∷ xs) a ≡ false
  lower_absent a b xs lt h = or_from _ _ (r.apart a b lt) (before_none a xs (before_lower a b xs lt h))

  same_rest : (a : X) (xs ys : List X) → list_all (before a) xs ≡ true → list_all (before a) ys ≡ true →
      ((x : X) → is_among same (a ∷ xs) x ≡ is_among same (a ∷ ys) x) → (x : X) → is_among same xs x ≡ is_among same ys x
  same_rest a xs ys h k agree x =
      elim (cases_Bool (same x a)) [
        | inl here ↦
            let at : x ≡ a = r.tells.is x a here in
            ap (λ (z : X). is_among same xs z) at ∙ before_none a xs h ∙ sym (before_none a ys k) ∙ ap (λ (z : X). is_among same ys z) (sym at)
        | inr other ↦ ap (λ b. b || is_among same xs x) (sym other) ∙ agree x ∙ ap (λ b. b || is_among same ys x) other
      ]

  -- two such lists of the same members are one
  pub same_rising : (xs ys : List X) → rise_by before xs ≡ true → rise_by before ys ≡ true → ((x : X) → is_among same xs x ≡ is_among same ys x) → xs ≡ ys
  same_rising [] [] h k agree = refl
  same_rising [] (y ∷ ys) h k agree = absurd (true≢false (sym (agree y ∙ or_left _ _ (r.tells.itself y))))
  same_rising (x ∷ xs) [] h k agree = absurd (true≢false (sym (or_left _ _ (r.tells.itself x)) ∙ agree x))
  same_rising (x ∷ xs) (y ∷ ys) h k agree =
      by_order (r.compared x y) (and_parts _ _ h) (and_parts _ _ k) (λ a b c. same_rising xs ys a b c)
    where
      by_order : ((same x y ≡ true) ⊎ (before x y ≡ true)) ⊎ (before y x ≡ true) →
          (list_all (before x) xs ≡ true) × (rise_by before xs ≡ true) → (list_all (before y) ys ≡ true) × (rise_by before ys ≡ true) →
          (rise_by before xs ≡ true → rise_by before ys ≡ true → ((z : X) → is_among same xs z ≡ is_among same ys z) → xs ≡ ys) →
          x ∷ xs ≡ y ∷ ys
      by_order (inl (inl is)) a b rest =
          let at : x ≡ y = r.tells.is x y is in
          let below : list_all (before x) ys ≡ true = subst (λ (z : X). list_all (before z) ys ≡ true) (sym at) b.0 in
          let tails : xs ≡ ys = rest a.1 b.1 (same_rest x xs ys a.0 below (λ z. agree z ∙ ap (λ (w : X). is_among same (w ∷ ys) z) (sym at))) in
          cc
      by_order (inl (inr first)) a b rest = absurd (true≢false (sym (or_left _ _ (r.tells.itself x)) ∙ agree x ∙ lower_absent x y ys first b.0))
      by_order (inr second) a b rest = absurd (true≢false (sym (or_left _ _ (r.tells.itself y)) ∙ sym (agree y) ∙ lower_absent y x xs second a.0))

  -- ---- what putting in order keeps

  pub put_by-among : (e : X) (es : List X) (x : X) → is_among same (put_by same before e es) x ≡ (same x e || is_among same es x)
  put_by-among e [] x = refl
  put_by-among e (y ∷ es) x = by_tests (same e y) (before e y) refl (put_by-among e es x)
    where
      by_tests : (a b : Bool) → same e y ≡ a → is_among same (put_by same before e es) x ≡ (same x e || is_among same es x) →
          is_among same (cond a (y ∷ es) (cond b (e ∷ y ∷ es) (y ∷ put_by same before e es))) x ≡ (same x e || is_among same (y ∷ es) x)
      by_tests true b is rest =
          or_again (same x y) (is_among same es x) ∙ ap (λ (z : X). same x z || is_among same (y ∷ es) x) (sym (r.tells.is e y is))
      by_tests false true is rest = refl
      by_tests false false is rest = ap (λ b. same x y || b) rest ∙ or_swap (same x y) (same x e) (is_among same es x)

  put_by-all : (p : X → Bool) (e : X) (es : List X) → p e ≡ true → list_all p es ≡ true → list_all p (put_by same before e es) ≡ true
  put_by-all p e [] t h = and_from _ _ t refl
  put_by-all p e (y ∷ es) t h = by_tests (same e y) (before e y) (and_parts _ _ h) (put_by-all p e es t)
    where
      by_tests : (a b : Bool) → (p y ≡ true) × (list_all p es ≡ true) → (list_all p es ≡ true → list_all p (put_by same before e es) ≡ true) →
          list_all p (cond a (y ∷ es) (cond b (e ∷ y ∷ es) (y ∷ put_by same before e es))) ≡ true
      by_tests true b both rest = and_from _ _ both.0 both.1
      by_tests false true both rest = and_from _ _ t (and_from _ _ both.0 both.1)
      by_tests false false both rest = and_from _ _ both.0 (rest both.1)

  pub put_by-rise : (e : X) (es : List X) → IsTrue (rise_by before es) → IsTrue (rise_by before (put_by same before e es))
  put_by-rise e [] h = refl
  put_by-rise e (y ∷ es) h = by_tests (same e y) (before e y) refl refl (and_parts _ _ h) (put_by-rise e es)
    where
      by_tests : (a b : Bool) → same e y ≡ a → before e y ≡ b → (list_all (before y) es ≡ true) × (rise_by before es ≡ true) →
          (IsTrue (rise_by before es) → IsTrue (rise_by before (put_by same before e es))) → IsTrue (rise_by before (cond a (y ∷ es) (cond b (e ∷ y ∷ es) (y ∷ put_by same before e es))))
      by_tests true b is lt both rest = and_from _ _ both.0 both.1
      by_tests false true is lt both rest = and_from _ _ (and_from _ _ lt (before_lower e y es lt both.0)) (and_from _ _ both.0 both.1)
      by_tests false false is lt both rest =
          let above : before y e ≡ true =
          elim (r.compared e y) [
            | inl first ↦ elim first [ inl same ↦ absurd (true≢false (sym same ∙ is)) | inr below ↦ absurd (true≢false (sym below ∙ lt)) ]
            | inr over ↦ over
          ]
          in
          and_from _ _ (put_by-all (before y) e es above both.0) (rest both.1)

  pub ordered-rise : (es : List X) → IsTrue (rise_by before (ordered_by same before es))
  ordered-rise [] = refl
  ordered-rise (e ∷ es) = put_by-rise e (ordered_by same before es) (ordered-rise es)

  pub ordered-among : (es : List X) (x : X) → is_among same (ordered_by same before es) x ≡ is_among same es x
  ordered-among [] x = refl
  ordered-among (e ∷ es) x = put_by-among e (ordered_by same before es) x ∙ ap (λ b. same x e || b) (ordered-among es x)

  -- a list in order with just these members is what `ordered_by` gives
  pub ordered-is : (out es : List X) → IsTrue (rise_by before out) → ((e : X) → is_among same out e ≡ is_among same es e) → out ≡ ordered_by same before es
  ordered-is out es h agree = same_rising out (ordered_by same before es) h (ordered-rise es) (λ e. agree e ∙ sym (ordered-among es e))

  -- the members alone decide
  pub ordered-same : (as_ bs : List X) → ((e : X) → is_among same as_ e ≡ is_among same bs e) → ordered_by same before as_ ≡ ordered_by same before bs
  ordered-same as_ bs agree = ordered-is (ordered_by same before as_) bs (ordered-rise as_) (λ e. ordered-among as_ e ∙ agree e)

  pub ordered-in_order : (es : List X) → IsTrue (rise_by before es) → ordered_by same before es ≡ es
  ordered-in_order es h = sym (ordered-is es es h (λ e. refl))

  pub ordered-ordered : (es : List X) → ordered_by same before (ordered_by same before es) ≡ ordered_by same before es
  ordered-ordered es = ordered-in_order (ordered_by same before es) (ordered-rise es)

  pub ordered-append_same : (as_ as' bs bs' : List X) → ((e : X) → is_among same as_ e ≡ is_among same as' e) → ((e : X) → is_among same bs e ≡ is_among same bs' e) →
      ordered_by same before (as_ ++ bs) ≡ ordered_by same before (as' ++ bs')
  ordered-append_same as_ as' bs bs' h k =
      ordered-same (as_ ++ bs) (as' ++ bs') (λ e.
      among-append r.tells as_ bs e ∙ ap (λ b. b || is_among same bs e) (h e) ∙ ap (λ b. is_among same as' e || b) (k e) ∙ sym (among-append r.tells as' bs' e))

  pub ordered-append_left : (as_ bs : List X) → ordered_by same before (ordered_by same before as_ ++ bs) ≡ ordered_by same before (as_ ++ bs)
  ordered-append_left as_ bs = ordered-append_same (ordered_by same before as_) as_ bs bs (ordered-among as_) (λ e. refl)

  pub ordered-append_right : (as_ bs : List X) → ordered_by same before (as_ ++ ordered_by same before bs) ≡ ordered_by same before (as_ ++ bs)
  ordered-append_right as_ bs = ordered-append_same as_ as_ (ordered_by same before bs) bs (λ e. refl) (ordered-among bs)

  pub ordered-append_swap : (as_ bs : List X) → ordered_by same before (as_ ++ bs) ≡ ordered_by same before (bs ++ as_)
  ordered-append_swap as_ bs =
      ordered-same (as_ ++ bs) (bs ++ as_) (λ e. among-append r.tells as_ bs e ∙ or_turned (is_among same as_ e) (is_among same bs e) ∙ sym (among-append r.tells bs as_ e))

  -- one more at the end, as a loop puts it
  pub ordered-push : (es : List X) (e : X) → ordered_by same before (es ++ e ∷ []) ≡ put_by same before e (ordered_by same before es)
  ordered-push es e = ordered-append_swap es (e ∷ [])

  put_by-length : (e : X) (es : List X) → length (put_by same before e es) ≤ suc (length es)
  put_by-length e [] = omega arith
  put_by-length e (y ∷ es) = by_tests (same e y) (before e y) (put_by-length e es)
    where
      by_tests : (a b : Bool) → length (put_by same before e es) ≤ suc (length es) → length (cond a (y ∷ es) (cond b (e ∷ y ∷ es) (y ∷ put_by same before e es))) ≤ suc (suc (length es))
      by_tests true b rest = omega arith
      by_tests false true rest = omega arith
      by_tests false false rest = omega (arith, rest)

  pub ordered-length : (es : List X) → length (ordered_by same before es) ≤ length es
  ordered-length [] = omega arith
  ordered-length (e ∷ es) =
      let more = put_by-length e (ordered_by same before es) in
      let rest = ordered-length es in
      omega (arith, more, rest)

-- ---- the same as facts on each two places

pub AllPairs-from_rise : {X : Type 0} (before : X → X → Bool) (xs : List X) → IsTrue (rise_by before xs) → AllPairs (λ a b. before a b ≡ true) xs
AllPairs-from_rise before [] h = λ i j d lt inside. absurd (omega arith)
AllPairs-from_rise before (x ∷ xs) h =
    let both = and_parts (list_all (before x) xs) (rise_by before xs) h in
    AllPairs-cons (λ a b. before a b ≡ true) x xs (AllPass-from_list_all (before x) xs both.0) (AllPairs-from_rise before xs both.1)

pub rise-from_AllPairs : {X : Type 0} (before : X → X → Bool) (xs : List X) → AllPairs (λ a b. before a b ≡ true) xs → IsTrue (rise_by before xs)
rise-from_AllPairs before [] h = refl
rise-from_AllPairs before (x ∷ xs) h =
    and_from _ _
    (list_all-from_AllPass (before x) xs (λ k d inside. h zero (suc k) d (omega arith) (omega arith)))
    (rise-from_AllPairs before xs (λ i j d lt inside. h (suc i) (suc j) d (omega arith) (omega arith)))

-- ---- after a sort and a removal of equal neighbours

-- a comparison that says the same as the two tests
pub record Compares {X : Type 0} (cmp : X → X → Ordering) (same before : X → X → Bool) : Type 0 where
  pub total : IsTotalOrder cmp
  pub equivalence : IsEquivalence same
  pub tells_before : (a b : X) → is_lt (cmp a b) ≡ before a b
  pub tells_same : (a b : X) → same a b ≡ is_eq (cmp a b)

module _ {X : Type 0} {cmp : X → X → Ordering} {same before : X → X → Bool} (r : Ranks same before) (c : Compares cmp same before) where
  before_from_less : (a b : X) → cmp a b ≡ Less → before a b ≡ true
  before_from_less a b h = sym (c.tells_before a b) ∙ ap is_lt h

  all_before : (e : X) (es : List X) → AllByRecursion (λ x. cmp e x ≡ Less) es → list_all (before e) es ≡ true
  all_before e [] h = refl
  all_before e (x ∷ es) h = and_from _ _ (before_from_less e x h.0) (all_before e es h.1)

  pub rise-from_sorted : (es : List X) → IsStrictlySortedBy cmp es → IsTrue (rise_by before es)
  unfolding IsStrictlySortedBy
  rise-from_sorted [] h = refl
  rise-from_sorted (e ∷ es) h = and_from _ _ (all_before e es h.0) (rise-from_sorted es h.1)

  -- what `sort` or `sort_unstable` and then `dedup` of a `Vec` leave is in order
  pub ordered-from_sort : (es sorted out : List X) → IsPermutation es sorted → IsSorted cmp sorted → out ≡ dedup same sorted → out ≡ ordered_by same before es
  ordered-from_sort es sorted out moved up is =
      is
      ∙ ordered-is r (dedup same sorted) es
      (rise-from_sorted (dedup same sorted) (IsStrictlySortedBy-dedup c.total c.tells_same sorted up))
      (among-same r.tells (dedup same sorted) es
      (λ e d. Contains-permutation sorted es e (IsPermutation-sym es sorted moved) (Contains-from_dedup same sorted e d))
      (λ e d. Contains-dedup c.equivalence r.tells.is sorted e (Contains-permutation es sorted e moved d)))

  pub ordered-from_sort_dedup : (es sorted out : List X) → IsPermutation es sorted → IsSorted cmp sorted → IsFiltered (DiffersFromLast same) [] sorted out →
      out ≡ ordered_by same before es
  ordered-from_sort_dedup es sorted out moved up filtered = ordered-from_sort es sorted out moved up (dedup_is same sorted out filtered)

  not_back : (a b : X) → before a b ≡ true → before b a ≡ false
  not_back a b h =
      false_from_ne_true (before b a) (λ k. true≢false (sym (r.trans a b a h k) ∙ before-itself r a))

  -- what is in order is sorted, as a search in it asks
  pub ordered-sorted : (es : List X) → IsSorted cmp (ordered_by same before es)
  ordered-sorted es k d low inside =
      let first = AllPairs-from_rise before (ordered_by same before es) (ordered-rise r es) k (k + 1) d (omega arith) inside in
      let low_end = get_or (ordered_by same before es) k d in
      let high_end = get_or (ordered_by same before es) (k + 1) d in
      c.tells_before high_end low_end ∙ not_back low_end high_end first
