-- How much is left to do in an evaluation: each endpoint that can be met and wasn't, what follows it,
-- and what the open ones still need.
use Rattle.std.proofs.Common.{◌≡◌, ℕ, zero, suc, ◌+◌, ◌*◌, ◌<◌, ◌≤◌, Bool, true, false, cond, ◌||◌, List, [], ◌∷◌, ◌++◌, Option, Some, None, is_some, map, flat_map, drop, length, append_assoc, Contains, IsTrue, refl, sym, ap, ◌∙◌, subst, inl, inr, arith, true≢false, length-append}
use Rattle.std.proofs.lemmas.Bool.{or_cases, or_left, or_right, or_from}
use Rattle.std.proofs.lemmas.List.{map-append}
use Rattle.std.proofs.lemmas.List.Elements.{Contains-append_left, Contains-append_right}
use Rattle.std.specs.List.{slice_get}
use Rattle.dg_base.specs.declared.ids.Endpoint.{Endpoint}
use Rattle.dg_base.specs.declared.answer.Answer.{Answer}
use Rattle.dg_base.specs.declared.answer.Answer.TheVariants as answer
use Rattle.dg_base.specs.Same.{same_end}
use Rattle.dg_base.specs.Order.{is_end_among}
use Rattle.dg_base.specs.Tables.{Tables}
use Rattle.dg_base.specs.Graph.{Graph}
use Rattle.dg_base.specs.Rule.{dependencies, endpoints}
use Rattle.dg_laws.proofs.Members.{Contains-head, Contains-tail, Contains-cases, Contains-none, Contains-flat_map}
use Rattle.dg_laws.proofs.Among.{among-append}
use Rattle.dg_laws.proofs.Ends.{same_end-itself, ends_tell}
use Rattle.dg_cache.specs.declared.entry.Entry.{Entry}
use Rattle.dg_cache.specs.Entries.{ends_of, value_in}
use Rattle.dg_eval.specs.declared.frame.Frame.{Frame}
use Rattle.dg_eval.specs.Frames.{ends_open, opened, with_answer, or_else, answer_met, frames_after}
use Rattle.dg_eval.proofs.Frames.{rest_of, next_of}
use Rattle.dg_eval.proofs.Entries.{value_in-among}

-- ---- what wasn't met

pub work : (Endpoint → List Endpoint) → (Endpoint → Bool) → List Endpoint → ℕ
work follow met [] = 0
work follow met (x ∷ xs) = cond (met x) 0 (2 * length (follow x) + 2) + work follow met xs

less_at : (a b : Bool) (w : ℕ) → (a ≡ true → b ≡ true) → cond b 0 w ≤ cond a 0 w
less_at true true w h = omega arith
less_at true false w h = absurd (true≢false (sym (h refl)))
less_at false true w h = omega arith
less_at false false w h = omega arith

pub work-more : (follow : Endpoint → List Endpoint) (met met' : Endpoint → Bool) → ((x : Endpoint) → met x ≡ true → met' x ≡ true) → (xs : List Endpoint) →
    work follow met' xs ≤ work follow met xs
unfolding work
work-more follow met met' h [] = omega arith
work-more follow met met' h (x ∷ xs) =
    let rest = work-more follow met met' h xs in
    let here = less_at (met x) (met' x) (2 * length (follow x) + 2) (h x) in
    omega (arith, rest, here)

pub work-met : (follow : Endpoint → List Endpoint) (met met' : Endpoint → Bool) → ((x : Endpoint) → met x ≡ true → met' x ≡ true) → (xs : List Endpoint) (d : Endpoint) →
    Contains xs d → met d ≡ false → met' d ≡ true → work follow met' xs + (2 * length (follow d) + 2) ≤ work follow met xs
unfolding work
work-met follow met met' h [] d c new now = Contains-none d c
work-met follow met met' h (x ∷ xs) d c new now =
    elim (Contains-cases x xs d c) [
      | inl is ↦
          let before : met x ≡ false = ap met is ∙ new in
          let after : met' x ≡ true = ap met' is ∙ now in
          let long : length (follow x) ≡ length (follow d) = ap (λ (z : Endpoint). length (follow z)) is in
          let rest = work-more follow met met' h xs in
          let a : cond (met x) 0 (2 * length (follow x) + 2) ≡ 2 * length (follow x) + 2 = ap (λ b. cond b 0 (2 * length (follow x) + 2)) before in
          let b : cond (met' x) 0 (2 * length (follow x) + 2) ≡ 0 = ap (λ b. cond b 0 (2 * length (follow x) + 2)) after in
          omega (arith, long, rest, a, b)
      | inr later ↦
          let rest = work-met follow met met' h xs d later new now in
          let here = less_at (met x) (met' x) (2 * length (follow x) + 2) (h x) in
          omega (arith, rest, here)
    ]

-- ---- what the open ones need

pub load : List Frame → ℕ
load [] = 0
load (f ∷ fs) = 2 * length (rest_of f) + 1 + load fs

pub load-append : (fs gs : List Frame) → load (fs ++ gs) ≡ load fs + load gs
unfolding load
load-append [] gs = omega arith
load-append (f ∷ fs) gs = let rest = load-append fs gs in omega (arith, rest)

abbrev pub was_seen : List Frame → List Entry → Endpoint → Bool
was_seen fs results x = is_end_among (ends_open fs) x || is_end_among (ends_of results) x

-- what an evaluation can meet
abbrev pub within_reach : Tables → Graph → Endpoint → List Endpoint
within_reach t g e = e ∷ endpoints t g ++ flat_map (dependencies t g) (endpoints t g)

pub todo : Tables → Graph → Endpoint → List Frame → List Entry → ℕ
todo t g e fs results = work (dependencies t g) (was_seen fs results) (within_reach t g e) + load fs

pub in_reach : (t : Tables) (g : Graph) (e x d : Endpoint) → Contains (endpoints t g) x → Contains (dependencies t g x) d → Contains (within_reach t g e) d
in_reach t g e x d c h =
    Contains-tail e (endpoints t g ++ flat_map (dependencies t g) (endpoints t g)) d
    (Contains-append_right (endpoints t g) (flat_map (dependencies t g) (endpoints t g)) d (Contains-flat_map (dependencies t g) (endpoints t g) x d c h))

-- ---- each round leaves less

moved : (a f r : Bool) → ((a || f) || r) ≡ (a || (r || f))
moved true f r = refl
moved false true true = refl
moved false true false = refl
moved false false true = refl
moved false false false = refl

seen_push : (fs : List Frame) (f : Frame) (results : List Entry) (y : Endpoint) →
    was_seen (fs ++ f ∷ []) results y ≡ ((is_end_among (ends_open fs) y || is_end_among (f.at ∷ []) y) || is_end_among (ends_of results) y)
seen_push fs f results y =
    ap (λ (z : List Endpoint). is_end_among z y || is_end_among (ends_of results) y) (map-append (λ z. z.at) fs (f ∷ []))
    ∙ ap (λ b. b || is_end_among (ends_of results) y) (among-append ends_tell (ends_open fs) (f.at ∷ []) y)

seen_done : (fs : List Frame) (f : Frame) (results : List Entry) (a : Answer) (y : Endpoint) →
    was_seen fs (results ++ record { at = f.at; value = a } ∷ []) y ≡ (is_end_among (ends_open fs) y || (is_end_among (ends_of results) y || is_end_among (f.at ∷ []) y))
seen_done fs f results a y =
    ap (λ (z : List Endpoint). is_end_among (ends_open fs) y || is_end_among z y) (map-append (λ z. z.at) results (record { at = f.at; value = a } ∷ []))
    ∙ ap (λ b. is_end_among (ends_open fs) y || b) (among-append ends_tell (ends_of results) (f.at ∷ []) y)

pub todo-finished : (t : Tables) (g : Graph) (e : Endpoint) (fs : List Frame) (f : Frame) (results : List Entry) (a : Answer) →
    todo t g e fs (results ++ record { at = f.at; value = a } ∷ []) < todo t g e (fs ++ f ∷ []) results
unfolding todo load
todo-finished t g e fs f results a =
    let kept = work-more (dependencies t g) (was_seen (fs ++ f ∷ []) results) (was_seen fs (results ++ record { at = f.at; value = a } ∷ []))
    (λ y h. seen_done fs f results a y ∙ sym (moved (is_end_among (ends_open fs) y) (is_end_among (f.at ∷ []) y) (is_end_among (ends_of results) y)) ∙ sym (seen_push fs f results y) ∙ h)
    (within_reach t g e) in
    let loads = load-append fs (f ∷ []) in
    omega (arith, kept, loads)

pub todo-answered : (t : Tables) (g : Graph) (e : Endpoint) (fs : List Frame) (f : Frame) (results : List Entry) (d : Endpoint) (a : Answer) → slice_get f.needs (length f.answers) ≡ Some d →
    todo t g e (fs ++ with_answer f a ∷ []) results < todo t g e (fs ++ f ∷ []) results
unfolding todo load
todo-answered t g e fs f results d a next =
    let same : ends_open (fs ++ with_answer f a ∷ []) ≡ ends_open (fs ++ f ∷ []) = map-append (λ z. z.at) fs (with_answer f a ∷ []) ∙ sym (map-append (λ z. z.at) fs (f ∷ [])) in
    let kept = work-more (dependencies t g) (was_seen (fs ++ f ∷ []) results) (was_seen (fs ++ with_answer f a ∷ []) results)
    (λ y h. ap (λ (z : List Endpoint). is_end_among z y || is_end_among (ends_of results) y) same ∙ h) (within_reach t g e) in
    let before = load-append fs (f ∷ []) in
    let after = load-append fs (with_answer f a ∷ []) in
    let long : length (rest_of f) ≡ suc (length (drop (length f.answers + 1) f.needs)) = ap length (next_of f d next) in
    let short : length (rest_of (with_answer f a)) ≡ length (drop (length f.answers + 1) f.needs) = ap (λ (k : ℕ). length (drop k f.needs)) (length-append f.answers (a ∷ [])) in
    omega (arith, kept, before, after, long, short)

pub todo-entered : (t : Tables) (g : Graph) (e : Endpoint) (fs : List Frame) (f : Frame) (results : List Entry) (d : Endpoint) → Contains (within_reach t g e) d →
    is_end_among (ends_open fs ++ f.at ∷ []) d ≡ false → is_end_among (ends_of results) d ≡ false →
    todo t g e (fs ++ f ∷ opened t g d ∷ []) results < todo t g e (fs ++ f ∷ []) results
unfolding todo load
todo-entered t g e fs f results d there new none =
    let first : ends_open (fs ++ f ∷ []) ≡ ends_open fs ++ f.at ∷ [] = map-append (λ z. z.at) fs (f ∷ []) in
    let ends : ends_open (fs ++ f ∷ opened t g d ∷ []) ≡ (ends_open fs ++ f.at ∷ []) ++ d ∷ [] =
    map-append (λ z. z.at) fs (f ∷ opened t g d ∷ []) ∙ sym (append_assoc (ends_open fs) (f.at ∷ []) (d ∷ [])) in
    let unseen : was_seen (fs ++ f ∷ []) results d ≡ false = or_from _ _ (ap (λ (z : List Endpoint). is_end_among z d) first ∙ new) none in
    let seen : was_seen (fs ++ f ∷ opened t g d ∷ []) results d ≡ true =
    or_left _ (is_end_among (ends_of results) d) (ap (λ (z : List Endpoint). is_end_among z d) ends ∙ among-append ends_tell (ends_open fs ++ f.at ∷ []) (d ∷ []) d
    ∙ or_right (is_end_among (ends_open fs ++ f.at ∷ []) d) (same_end d d || false) (or_left _ false (same_end-itself d))) in
    let less = work-met (dependencies t g) (was_seen (fs ++ f ∷ []) results) (was_seen (fs ++ f ∷ opened t g d ∷ []) results)
    (λ y h. elim (or_cases (is_end_among (ends_open (fs ++ f ∷ [])) y) (is_end_among (ends_of results) y) h) [
      | inl way ↦ or_left _ (is_end_among (ends_of results) y) (ap (λ (z : List Endpoint). is_end_among z y) ends ∙ among-append ends_tell (ends_open fs ++ f.at ∷ []) (d ∷ []) y
          ∙ or_left _ (is_end_among (d ∷ []) y) (sym (ap (λ (z : List Endpoint). is_end_among z y) first) ∙ way))
      | inr listed ↦ or_right (is_end_among (ends_open (fs ++ f ∷ opened t g d ∷ [])) y) _ listed
    ])
    (within_reach t g e) d there unseen seen in
    let before = load-append fs (f ∷ []) in
    let after = load-append fs (f ∷ opened t g d ∷ []) in
    let fresh : length (rest_of (opened t g d)) ≡ length (dependencies t g d) = refl in
    omega (arith, less, before, after, fresh)

pub todo-looked : (t : Tables) (g : Graph) (e : Endpoint) (fs : List Frame) (f : Frame) (results known : List Entry) (d : Endpoint) → slice_get f.needs (length f.answers) ≡ Some d → Contains (within_reach t g e) d →
    todo t g e (fs ++ frames_after t g f d (answer_met (is_end_among (ends_open fs ++ f.at ∷ []) d) results known d)) results < todo t g e (fs ++ f ∷ []) results
todo-looked t g e fs f results known d next there = by_case (is_end_among (ends_open fs ++ f.at ∷ []) d) refl (value_in results d) refl (value_in known d)
  where
    by_case : (b : Bool) → is_end_among (ends_open fs ++ f.at ∷ []) d ≡ b → (r : Option Answer) → value_in results d ≡ r → (k : Option Answer) →
        todo t g e (fs ++ frames_after t g f d (cond b (Some answer.Cycle) (or_else r k))) results < todo t g e (fs ++ f ∷ []) results
    by_case true b r er k = todo-answered t g e fs f results d answer.Cycle next
    by_case false b (Some a) er k = todo-answered t g e fs f results d a next
    by_case false b None er (Some a) = todo-answered t g e fs f results d a next
    by_case false b None er None = todo-entered t g e fs f results d there b (sym (value_in-among results d) ∙ ap is_some er)

pub todo-is : (t : Tables) (g : Graph) (e : Endpoint) (ss ss' old now : List Frame) (rs rs' was : List Entry) → todo t g e ss rs < todo t g e old was → ss' ≡ ss → rs' ≡ rs → now ≡ old →
    todo t g e ss' rs' < todo t g e now was
todo-is t g e ss ss' old now rs rs' was h a b c =
    let left : todo t g e ss' rs' ≡ todo t g e ss rs = ap (λ (z : List Frame). todo t g e z rs') a ∙ ap (todo t g e ss) b in
    let right : todo t g e now was ≡ todo t g e old was = ap (λ (z : List Frame). todo t g e z was) c in
    omega (arith, h, left, right)
