-- What is dirty, in rounds: each holds the one before, and one that adds nothing is the last.
use Rattle.std.proofs.Common.{◌≡◌, ℕ, zero, suc, ◌+◌, ◌<◌, ◌≤◌, ◌⊎◌, Bool, true, false, not, ◌&&◌, List, ◌++◌, filter, length, IsTrue, refl, sym, ap, ◌∙◌, subst, inl, inr, arith, true≢false}
use Rattle.std.proofs.lemmas.Bool.{and_parts, or_left, or_right, or_cases}
use Rattle.std.specs.List.{list_any}
use Rattle.dg_base.specs.declared.ids.Endpoint.{Endpoint}
use Rattle.dg_base.specs.Order.{is_end_among, ends_rise}
use Rattle.dg_base.specs.Tables.{Tables}
use Rattle.dg_base.specs.Graph.{Graph}
use Rattle.dg_base.specs.Rule.{dependencies, endpoints}
use Rattle.dg_base.specs.Dirty.{depends_on, spread, dirty_within, dirty}
use Rattle.dg_laws.proofs.Members.{list_any_from, list_any_gives, Contains-filter, Contains-from_filter}
use Rattle.dg_laws.proofs.Filters.{length_filter_le, filter_fewer, contrary, filter_some}
use Rattle.dg_laws.proofs.Among.{same_answer, among-append, among_from_Contains, Contains_from_among}
use Rattle.dg_laws.proofs.Orders.{ordered-rise, same_rising, ordered-among}
use Rattle.dg_laws.proofs.Ends.{ends_rank, ends_tell}

-- each of these is among those
abbrev pub IsWithin : List Endpoint → List Endpoint → Type 0
IsWithin as_ bs = (e : Endpoint) → is_end_among as_ e ≡ true → is_end_among bs e ≡ true

-- more are depended on where there are more
pub depends_on-more : (t : Tables) (g : Graph) (as_ bs : List Endpoint) → IsWithin as_ bs → (e : Endpoint) → depends_on t g as_ e ≡ true → depends_on t g bs e ≡ true
depends_on-more t g as_ bs w e h =
    let d = list_any_gives (is_end_among as_) (dependencies t g e) h in
    list_any_from (is_end_among bs) (dependencies t g e) d.0 d.1 (w d.0 d.2)

-- ---- one round

pub spread-holds : (t : Tables) (g : Graph) (es : List Endpoint) → IsWithin es (spread t g es)
spread-holds t g es e h =
    let news = filter (depends_on t g es) (endpoints t g) in
    ordered-among ends_rank (es ++ news) e ∙ among-append ends_tell es news e ∙ or_left _ (is_end_among news e) h

pub spread-adds : (t : Tables) (g : Graph) (es : List Endpoint) (e : Endpoint) → is_end_among (endpoints t g) e ≡ true → depends_on t g es e ≡ true → is_end_among (spread t g es) e ≡ true
spread-adds t g es e there d =
    let news = filter (depends_on t g es) (endpoints t g) in
    let new = among_from_Contains ends_tell news e (Contains-filter (depends_on t g es) (endpoints t g) e (Contains_from_among ends_tell (endpoints t g) e there) d) in
    ordered-among ends_rank (es ++ news) e ∙ among-append ends_tell es news e ∙ or_right (is_end_among es e) _ new

-- what a round adds is an endpoint that depends on what there was
pub spread-cases : (t : Tables) (g : Graph) (es : List Endpoint) (e : Endpoint) → is_end_among (spread t g es) e ≡ true →
    (is_end_among es e ≡ true) ⊎ ((is_end_among (endpoints t g) e ≡ true) × (depends_on t g es e ≡ true))
spread-cases t g es e h =
    let news = filter (depends_on t g es) (endpoints t g) in
    elim (or_cases (is_end_among es e) (is_end_among news e) (sym (among-append ends_tell es news e) ∙ sym (ordered-among ends_rank (es ++ news) e) ∙ h)) [
      | inl before ↦ inl before
      | inr new ↦
          let both = Contains-from_filter (depends_on t g es) (endpoints t g) e (Contains_from_among ends_tell news e new) in
          inr (among_from_Contains ends_tell (endpoints t g) e both.0, both.1)
    ]

pub spread-within : (t : Tables) (g : Graph) (es fs : List Endpoint) → IsWithin es fs →
    ((e : Endpoint) → is_end_among (endpoints t g) e ≡ true → depends_on t g fs e ≡ true → is_end_among fs e ≡ true) → IsWithin (spread t g es) fs
spread-within t g es fs w closed e h =
    elim (spread-cases t g es e h) [
      | inl before ↦ w e before
      | inr new ↦ closed e new.0 (depends_on-more t g es fs w e new.1)
    ]

-- ---- the rounds

-- each endpoint of the graph that depends on one of these is one of them
abbrev pub IsSpread : Tables → Graph → List Endpoint → Type 0
IsSpread t g es = (e : Endpoint) → is_end_among (endpoints t g) e ≡ true → depends_on t g es e ≡ true → is_end_among es e ≡ true

pub dirty_within-holds : (k : ℕ) (t : Tables) (g : Graph) (es : List Endpoint) → IsWithin es (dirty_within k t g es)
dirty_within-holds zero t g es e h = ordered-among ends_rank es e ∙ h
dirty_within-holds (suc k) t g es e h = spread-holds t g (dirty_within k t g es) e (dirty_within-holds k t g es e h)

pub dirty_within-least : (k : ℕ) (t : Tables) (g : Graph) (es fs : List Endpoint) → IsWithin es fs → IsSpread t g fs → IsWithin (dirty_within k t g es) fs
dirty_within-least zero t g es fs w closed e h = w e (sym (ordered-among ends_rank es e) ∙ h)
dirty_within-least (suc k) t g es fs w closed e h = spread-within t g (dirty_within k t g es) fs (dirty_within-least k t g es fs w closed) closed e h

-- a round over what is closed adds nothing, and so it stays closed
closed-spread : (t : Tables) (g : Graph) (es : List Endpoint) → IsSpread t g es → IsSpread t g (spread t g es)
closed-spread t g es closed e there d =
    spread-holds t g es e (closed e there (depends_on-more t g (spread t g es) es (spread-within t g es es (λ x h. h) closed) e d))

-- what a round would add
newly : Tables → Graph → List Endpoint → Endpoint → Bool
newly t g es e = depends_on t g es e && not (is_end_among es e)

abbrev outside : Tables → Graph → List Endpoint → ℕ
outside t g es = length (filter (λ e. not (is_end_among es e)) (endpoints t g))

closed-when : (t : Tables) (g : Graph) (es : List Endpoint) → list_any (newly t g es) (endpoints t g) ≡ false → IsSpread t g es
unfolding newly
closed-when t g es none e there d = by_test (is_end_among es e) refl
  where
    by_test : (b : Bool) → is_end_among es e ≡ b → is_end_among es e ≡ true
    by_test true is = is
    by_test false is =
        let new : (depends_on t g es e && not (is_end_among es e)) ≡ true = rw (d, is) refl in
        absurd (true≢false (sym (list_any_from (newly t g es) (endpoints t g) e (Contains_from_among ends_tell (endpoints t g) e there) new) ∙ none))

fewer-outside : (t : Tables) (g : Graph) (es : List Endpoint) → list_any (newly t g es) (endpoints t g) ≡ true → outside t g (spread t g es) < outside t g es
unfolding newly
fewer-outside t g es h =
    let one = list_any_gives (newly t g es) (endpoints t g) h in
    let both = and_parts (depends_on t g es one.0) (not (is_end_among es one.0)) one.2 in
    let added = spread-adds t g es one.0 (among_from_Contains ends_tell (endpoints t g) one.0 one.1) both.0 in
    filter_fewer (λ e. not (is_end_among (spread t g es) e)) (λ e. not (is_end_among es e))
    (λ e. contrary (is_end_among es e) (is_end_among (spread t g es) e) (spread-holds t g es e)) (endpoints t g) one.0 one.1
    (ap not added) both.1

-- each round that isn't over takes in one endpoint more
progress : (k : ℕ) (t : Tables) (g : Graph) (es : List Endpoint) →
    IsSpread t g (dirty_within k t g es) ⊎ (outside t g (dirty_within k t g es) + k ≤ length (endpoints t g))
progress zero t g es = let most = length_filter_le (λ e. not (is_end_among (dirty_within zero t g es) e)) (endpoints t g) in inr (omega (arith, most))
progress (suc k) t g es = by_past (progress k t g es) (list_any (newly t g (dirty_within k t g es)) (endpoints t g)) refl
  where
    by_past : IsSpread t g (dirty_within k t g es) ⊎ (outside t g (dirty_within k t g es) + k ≤ length (endpoints t g)) →
        (b : Bool) → list_any (newly t g (dirty_within k t g es)) (endpoints t g) ≡ b →
        IsSpread t g (dirty_within (suc k) t g es) ⊎ (outside t g (dirty_within (suc k) t g es) + suc k ≤ length (endpoints t g))
    by_past (inl closed) b new = inl (closed-spread t g (dirty_within k t g es) closed)
    by_past (inr few) true new = let fewer = fewer-outside t g (dirty_within k t g es) new in inr (omega (arith, fewer, few))
    by_past (inr few) false new = inl (closed-spread t g (dirty_within k t g es) (closed-when t g (dirty_within k t g es) new))

pub dirty-closed : (t : Tables) (g : Graph) (es : List Endpoint) → IsSpread t g (dirty t g es)
dirty-closed t g es =
    elim (progress (length (endpoints t g)) t g es) [
      | inl closed ↦ closed
      | inr few ↦ λ e there d. by_test few e there (is_end_among (dirty t g es) e) refl
    ]
  where
    by_test : outside t g (dirty t g es) + length (endpoints t g) ≤ length (endpoints t g) → (e : Endpoint) → is_end_among (endpoints t g) e ≡ true →
        (b : Bool) → is_end_among (dirty t g es) e ≡ b → is_end_among (dirty t g es) e ≡ true
    by_test few e there true is = is
    by_test few e there false is =
        let one = filter_some (λ x. not (is_end_among (dirty t g es) x)) (endpoints t g) e (Contains_from_among ends_tell (endpoints t g) e there) (ap not is) in
        absurd (omega (arith, one, few))

pub dirty-holds : (t : Tables) (g : Graph) (es : List Endpoint) → IsWithin es (dirty t g es)
dirty-holds t g es = dirty_within-holds (length (endpoints t g)) t g es

pub dirty-least : (t : Tables) (g : Graph) (es fs : List Endpoint) → IsWithin es fs → IsSpread t g fs → IsWithin (dirty t g es) fs
dirty-least t g es fs = dirty_within-least (length (endpoints t g)) t g es fs

-- ---- what else gives it

dirty_within-rise : (k : ℕ) (t : Tables) (g : Graph) (es : List Endpoint) → IsTrue (ends_rise (dirty_within k t g es))
dirty_within-rise zero t g es = ordered-rise ends_rank es
dirty_within-rise (suc k) t g es =
    ordered-rise ends_rank (dirty_within k t g es ++ filter (depends_on t g (dirty_within k t g es)) (endpoints t g))

pub dirty-rise : (t : Tables) (g : Graph) (es : List Endpoint) → IsTrue (ends_rise (dirty t g es))
dirty-rise t g es = dirty_within-rise (length (endpoints t g)) t g es

-- a list in order that holds these, is closed and holds no more than has to be there
pub dirty-is : (t : Tables) (g : Graph) (es ds : List Endpoint) → IsTrue (ends_rise ds) → IsWithin es ds → IsSpread t g ds → IsWithin ds (dirty t g es) → ds ≡ dirty t g es
dirty-is t g es ds rise holds closed least =
    same_rising ends_rank ds (dirty t g es) rise (dirty-rise t g es) (λ e.
    same_answer (is_end_among ds e) (is_end_among (dirty t g es) e) (least e) (dirty-least t g es ds holds closed e))

-- a round that adds nothing was the last one needed
pub dirty-at_round : (k : ℕ) (t : Tables) (g : Graph) (es : List Endpoint) → IsSpread t g (dirty_within k t g es) → dirty_within k t g es ≡ dirty t g es
dirty-at_round k t g es closed =
    dirty-is t g es (dirty_within k t g es) (dirty_within-rise k t g es) (dirty_within-holds k t g es) closed
    (dirty_within-least k t g es (dirty t g es) (dirty-holds t g es) (dirty-closed t g es))

pub dirty-when_same : (k : ℕ) (t : Tables) (g : Graph) (es : List Endpoint) → spread t g (dirty_within k t g es) ≡ dirty_within k t g es → dirty_within k t g es ≡ dirty t g es
dirty-when_same k t g es same =
    dirty-at_round k t g es (λ e there d.
    subst (λ (z : List Endpoint). is_end_among z e ≡ true) same (spread-adds t g (dirty_within k t g es) e there d))
