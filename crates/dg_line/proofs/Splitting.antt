-- The count of an endpoint in a list in order that is split at a member.
use Rattle.std.proofs.Common.{◌≡◌, ℕ, take, drop, Bool, true, false, cond, ◌||◌, List, [], ◌∷◌, ◌++◌, IsTrue, refl, sym, ap, ◌∙◌, subst, inl, inr, is_lt, is_eq, true≢false}
use Rattle.std.proofs.lemmas.Bool.{and_parts, and_from}
use Rattle.std.proofs.lemmas.List.{take-append-drop}
use Rattle.std.specs.List.{list_all}
use Rattle.std.specs.declared.cmp.Ordering.TheVariants.{Less, Equal, Greater}
use Rattle.dg_base.specs.declared.ids.Endpoint.{Endpoint}
use Rattle.dg_base.specs.Same.{same_end}
use Rattle.dg_base.specs.Order.{is_end_among, is_end_before, ends_rise}
use Rattle.dg_laws.proofs.Among.{same-swap}
use Rattle.dg_laws.proofs.Ends.{same_end-is, same_end-itself, ends_tell, ends_rank, end_cmp, ends_compare}
use Rattle.dg_laws.proofs.Orders.{before_lower}
use Rattle.dg_line.specs.declared.counters.Counted.{Counted}
use Rattle.dg_line.specs.Counts.{count_in, counted_ends}

pub before-from_greater : (a b : Endpoint) → end_cmp a b ≡ Greater → is_end_before b a ≡ true
before-from_greater a b h =
    elim (ends_rank.compared a b) [
      | inl first ↦ elim first [
        | inl same ↦ absurd (true≢false (sym same ∙ ends_compare.tells_same a b ∙ ap is_eq h))
        | inr below ↦ absurd (true≢false (sym below ∙ sym (ends_compare.tells_before a b) ∙ ap is_lt h))
      ]
      | inr above ↦ above
    ]

pub before-from_less : (a b : Endpoint) → end_cmp a b ≡ Less → is_end_before a b ≡ true
before-from_less a b h = sym (ends_compare.tells_before a b) ∙ ap is_lt h

pub end-from_equal : (a b : Endpoint) → end_cmp a b ≡ Equal → a ≡ b
end-from_equal a b h = same_end-is a b (ends_compare.tells_same a b ∙ ap is_eq h)

pub differs-after : (a b : Endpoint) → is_end_before a b ≡ true → same_end b a ≡ false
differs-after a b h = same-swap ends_tell b a ∙ ends_rank.apart a b h

pub count-other : (c : Counted) (cs : List Counted) (e : Endpoint) → same_end e c.at ≡ false → count_in (c ∷ cs) e ≡ count_in cs e
count-other c cs e h = ap (λ b. cond b c.count (count_in cs e)) h

pub count-itself : (c : Counted) (cs : List Counted) → count_in (c ∷ cs) c.at ≡ c.count
count-itself c cs = ap (λ b. cond b c.count (count_in cs c.at)) (same_end-itself c.at)

pub count-none : (cs : List Counted) (e : Endpoint) → is_end_among (counted_ends cs) e ≡ false → count_in cs e ≡ 0
count-none [] e h = refl
count-none (c ∷ cs) e h = by_test (same_end e c.at) refl h (count-none cs e)
  where
    by_test : (a : Bool) → same_end e c.at ≡ a → (a || is_end_among (counted_ends cs) e) ≡ false → (is_end_among (counted_ends cs) e ≡ false → count_in cs e ≡ 0) →
        cond a c.count (count_in cs e) ≡ 0
    by_test true is h more = absurd (true≢false h)
    by_test false is h more = more h

pub count-below_all : (cs : List Counted) (e : Endpoint) → list_all (is_end_before e) (counted_ends cs) ≡ true → count_in cs e ≡ 0
count-below_all [] e h = refl
count-below_all (c ∷ cs) e h =
    let both = and_parts (is_end_before e c.at) (list_all (is_end_before e) (counted_ends cs)) h in
    count-other c cs e (ends_rank.apart e c.at both.0) ∙ count-below_all cs e both.1

-- ---- a list in order, split at a member

pub split-member : (h : ℕ) (all front back : List Counted) (c : Counted) (ys : List Counted) → front ≡ take h all → back ≡ drop h all → back ≡ c ∷ ys →
    all ≡ front ++ c ∷ ys
split-member h all front back c ys is_front is_back is =
    sym (take-append-drop h all) ∙ ap (λ xs. xs ++ drop h all) (sym is_front) ∙ ap (λ xs. front ++ xs) (sym is_back ∙ is)

before_member : (p : Endpoint → Bool) (xs : List Counted) (c : Counted) (ys : List Counted) → list_all p (counted_ends (xs ++ c ∷ ys)) ≡ true → p c.at ≡ true
before_member p [] c ys h = (and_parts (p c.at) (list_all p (counted_ends ys)) h).0
before_member p (x ∷ xs) c ys h = before_member p xs c ys (and_parts (p x.at) (list_all p (counted_ends (xs ++ c ∷ ys))) h).1

all_front : (p : Endpoint → Bool) (xs ys : List Counted) → list_all p (counted_ends (xs ++ ys)) ≡ true → list_all p (counted_ends xs) ≡ true
all_front p [] ys h = refl
all_front p (x ∷ xs) ys h =
    let both = and_parts (p x.at) (list_all p (counted_ends (xs ++ ys))) h in
    and_from _ _ both.0 (all_front p xs ys both.1)

module _ (c : Counted) (ys : List Counted) where
  pub rise-front : (xs : List Counted) → IsTrue (ends_rise (counted_ends (xs ++ c ∷ ys))) → IsTrue (ends_rise (counted_ends xs))
  rise-front [] h = refl
  rise-front (x ∷ xs) h =
      let both = and_parts (list_all (is_end_before x.at) (counted_ends (xs ++ c ∷ ys))) (ends_rise (counted_ends (xs ++ c ∷ ys))) h in
      and_from _ _ (all_front (is_end_before x.at) xs (c ∷ ys) both.0) (rise-front xs both.1)

  pub rise-back : (xs : List Counted) → IsTrue (ends_rise (counted_ends (xs ++ c ∷ ys))) → IsTrue (ends_rise (counted_ends ys))
  rise-back [] h = (and_parts (list_all (is_end_before c.at) (counted_ends ys)) (ends_rise (counted_ends ys)) h).1
  rise-back (x ∷ xs) h =
      rise-back xs (and_parts (list_all (is_end_before x.at) (counted_ends (xs ++ c ∷ ys))) (ends_rise (counted_ends (xs ++ c ∷ ys))) h).1

  pub count-front : (xs : List Counted) (e : Endpoint) → IsTrue (ends_rise (counted_ends (xs ++ c ∷ ys))) → is_end_before e c.at ≡ true →
      count_in (xs ++ c ∷ ys) e ≡ count_in xs e
  count-front [] e h lt =
      let both = and_parts (list_all (is_end_before c.at) (counted_ends ys)) (ends_rise (counted_ends ys)) h in
      count-below_all (c ∷ ys) e (and_from _ _ lt (before_lower ends_rank e c.at (counted_ends ys) lt both.0))
  count-front (x ∷ xs) e h lt =
      let both = and_parts (list_all (is_end_before x.at) (counted_ends (xs ++ c ∷ ys))) (ends_rise (counted_ends (xs ++ c ∷ ys))) h in
      ap (cond (same_end e x.at) x.count) (count-front xs e both.1 lt)

  -- what stands before the member is before it
  after_front : (x : Counted) (xs : List Counted) (e : Endpoint) → list_all (is_end_before x.at) (counted_ends (xs ++ c ∷ ys)) ≡ true → is_end_before c.at e ≡ true →
      same_end e x.at ≡ false
  after_front x xs e h lt = differs-after x.at e (ends_rank.trans x.at c.at e (before_member (is_end_before x.at) xs c ys h) lt)

  pub count-back : (xs : List Counted) (e : Endpoint) → IsTrue (ends_rise (counted_ends (xs ++ c ∷ ys))) → is_end_before c.at e ≡ true →
      count_in (xs ++ c ∷ ys) e ≡ count_in ys e
  count-back [] e h lt = count-other c ys e (differs-after c.at e lt)
  count-back (x ∷ xs) e h lt =
      let both = and_parts (list_all (is_end_before x.at) (counted_ends (xs ++ c ∷ ys))) (ends_rise (counted_ends (xs ++ c ∷ ys))) h in
      count-other x (xs ++ c ∷ ys) e (after_front x xs e both.0 lt) ∙ count-back xs e both.1 lt

  pub count-member : (xs : List Counted) → IsTrue (ends_rise (counted_ends (xs ++ c ∷ ys))) → count_in (xs ++ c ∷ ys) c.at ≡ c.count
  count-member [] h = count-itself c ys
  count-member (x ∷ xs) h =
      let both = and_parts (list_all (is_end_before x.at) (counted_ends (xs ++ c ∷ ys))) (ends_rise (counted_ends (xs ++ c ∷ ys))) h in
      count-other x (xs ++ c ∷ ys) c.at (differs-after x.at c.at (before_member (is_end_before x.at) xs c ys both.0)) ∙ count-member xs both.1

-- ---- a search by halves

-- what is left of a list has the count that the list has
abbrev pub HasCount : List Counted → Endpoint → ℕ → Type 0
HasCount cs e n = (count_in cs e ≡ n) × IsTrue (ends_rise (counted_ends cs))

module _ (all xs : List Counted) (c : Counted) (ys : List Counted) (e : Endpoint) (n : ℕ) (has : HasCount all e n) (is : all ≡ xs ++ c ∷ ys) where
  has_split : HasCount (xs ++ c ∷ ys) e n
  has_split = subst (λ (cs : List Counted). HasCount cs e n) is has

  pub halves-front : end_cmp e c.at ≡ Less → HasCount xs e n
  halves-front less =
      let lt : is_end_before e c.at ≡ true = before-from_less e c.at less in
      (sym (count-front c ys xs e has_split.1 lt) ∙ has_split.0, rise-front c ys xs has_split.1)

  pub halves-back : end_cmp e c.at ≡ Greater → HasCount ys e n
  halves-back more =
      let gt : is_end_before c.at e ≡ true = before-from_greater e c.at more in
      (sym (count-back c ys xs e has_split.1 gt) ∙ has_split.0, rise-back c ys xs has_split.1)

  pub halves-member : end_cmp e c.at ≡ Equal → c.count ≡ n
  halves-member equal =
      let at : e ≡ c.at = end-from_equal e c.at equal in
      sym (count-member c ys xs has_split.1) ∙ ap (count_in (xs ++ c ∷ ys)) (sym at) ∙ has_split.0
