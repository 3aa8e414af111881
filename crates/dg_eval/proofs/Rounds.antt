-- What each round of an evaluation keeps.
use Rattle.std.proofs.Common.{◌≡◌, ℕ, zero, suc, ◌+◌, ◌-◌, ◌<◌, ◌≤◌, ◌⊎◌, Bool, true, false, not, cond, ◌&&◌, ◌||◌, List, [], ◌∷◌, ◌++◌, Option, Some, None, map, fold, take, drop, length, get_or, is_some, Contains, IsTrue, refl, sym, ap, ◌∙◌, subst, inl, inr, arith, true≢false, append_assoc, append-nil, drop-cons, length-append, add-one}
use Rattle.std.proofs.lemmas.Bool.{and_parts, and_from, or_parts, not-true, not_from_false, false_from_ne_true, cases_Bool, or_left, or_right, or_from}
use Rattle.std.proofs.lemmas.List.{map-append, length-map}
use Rattle.std.proofs.lemmas.List.Elements.{Contains-append_left, Contains-append_right, Contains-append_cases}
use Rattle.std.proofs.lemmas.Option.{slice_get_within, slice_get_cases, get_or_from_slice_get}
use Rattle.std.proofs.Math.ListN.{drop_of_length-le}
use Rattle.std.proofs.Math.Seq.{take-append_seam, drop-append_seam}
use Rattle.std.specs.List.{slice_get}
use Rattle.dg_base.specs.declared.ids.Endpoint.{Endpoint}
use Rattle.dg_base.specs.declared.answer.Answer.{Answer}
use Rattle.dg_base.specs.declared.answer.Answer.TheVariants as answer
use Rattle.dg_base.specs.declared.rule.Rule.{Rule}
use Rattle.dg_base.specs.declared.rule.Rule.TheVariants as rule
use Rattle.dg_base.specs.Same.{same_end}
use Rattle.dg_base.specs.Order.{is_end_among}
use Rattle.dg_base.specs.Tables.{Tables, AreTables}
use Rattle.dg_base.specs.Graph.{Graph}
use Rattle.dg_base.specs.Sound.{IsSound}
use Rattle.dg_base.specs.Rule.{rule_of, named_by, dependencies, endpoints}
use Rattle.dg_base.specs.Value.{answer_by, productions_by, value_within, enough_fuel, value_at}
use Rattle.dg_base.specs.Evaluation.{Evaluated, with_hit, with_end, was_met, evaluated_within, evaluated, productions_at, productions}
use Rattle.dg_laws.proofs.Members.{Contains-head, Contains-tail, Contains-cases, Contains-none}
use Rattle.dg_laws.proofs.Among.{among-push, Contains_from_among}
use Rattle.dg_laws.proofs.Ends.{same_end-is, same_end-itself, ends_tell}
use Rattle.dg_laws.proofs.Nodes.{IsLinked-from_sound}
use Rattle.dg_laws.proofs.Endpoints.{covers}
use Rattle.dg_laws.proofs.Fuel.{value-rule}
use Rattle.dg_laws.proofs.Endless.{IsWay, way-next, open_is_cycle}
use Rattle.dg_walks.proofs.Unwinding.{Open, way_of, unwound, fuel_above, fuel_above-is, lift, step_met, step_hit, step_enter, step_finish}
use Rattle.dg_walks.proofs.OpenEnds.{ends_once, ends_once-push, AreApart, apart-push, apart-done, at_most, way-push, way-begins}
use Rattle.dg_walks.proofs.Growing.{Begins, begins-same, begins-then, evaluated-begins, unwound-begins}
use Rattle.dg_cache.specs.declared.entry.Entry.{Entry}
use Rattle.dg_cache.specs.Entries.{ends_of, value_in}
use Rattle.dg_eval.specs.declared.frame.Frame.{Frame}
use Rattle.dg_offer.specs.Offers.{AreValues}
use Rattle.dg_eval.specs.Results.{so_far, newly_listed}
use Rattle.dg_eval.specs.Frames.{ends_open, opened, with_answer, or_else, answer_met, frames_after, ends_after, hits_by, hits_after}
use Rattle.dg_eval.proofs.Frames.{open_of, IsFrame, next_of, none_left, next_needed, frame_value, frame_productions, frame_next, frame_opened}
use Rattle.dg_eval.proofs.Entries.{value_in-right, right-push, value_in-among, none_from}

-- ---- the stack

pub ends_push : (fs : List Frame) (f : Frame) → ends_open (fs ++ f ∷ []) ≡ ends_open fs ++ f.at ∷ []
ends_push fs f = map-append (λ z. z.at) fs (f ∷ [])

ways_same : (fs : List Frame) → way_of (map open_of fs) ≡ ends_open fs
ways_same [] = refl
ways_same (f ∷ fs) = ap (λ (z : List Endpoint). f.at ∷ z) (ways_same fs)

-- an endpoint that depends on one is one of the graph's
pub dependent : {t : Tables} {g : Graph} → IsSound t g → AreTables t → (e d : Endpoint) → Contains (dependencies t g e) d → Contains (endpoints t g) e
dependent {t} {g} sound laws e d c =
    elim (covers (IsLinked-from_sound sound) laws e) [
      | inl among ↦ among
      | inr absent ↦ Contains-none d (subst (λ (r : Rule). Contains (named_by r) d) absent c)
    ]

at_top : (t : Tables) (g : Graph) (known : List Entry) (fs : List Frame) (k j : ℕ) (w w' : Evaluated) (gs gs' : List Open) → k ≡ fuel_above (dependencies t g) (ends_of known) (map open_of fs) j →
    unwound (dependencies t g) (ends_of known) gs j (ends_open fs) w ≡ unwound (dependencies t g) (ends_of known) gs' j (ends_open fs) w' →
    unwound (dependencies t g) (ends_of known) (map open_of fs ++ gs) k [] w ≡ unwound (dependencies t g) (ends_of known) (map open_of fs ++ gs') k [] w'
at_top t g known fs k j w w' gs gs' fuel h =
    let there : unwound (dependencies t g) (ends_of known) gs j (way_of (map open_of fs)) w ≡ unwound (dependencies t g) (ends_of known) gs' j (way_of (map open_of fs)) w' =
    subst (λ (z : List Endpoint). unwound (dependencies t g) (ends_of known) gs j z w ≡ unwound (dependencies t g) (ends_of known) gs' j z w') (sym (ways_same fs)) h
    in
    subst (λ (n : ℕ). unwound (dependencies t g) (ends_of known) (map open_of fs ++ gs) n [] w ≡ unwound (dependencies t g) (ends_of known) (map open_of fs ++ gs') n [] w') (sym fuel) (
    lift (dependencies t g) (ends_of known) j [] w w' (map open_of fs) gs gs' there)

take_first : (es : List Endpoint) (e : Endpoint) → take (length (es ++ e ∷ []) - 1) (es ++ e ∷ []) ≡ es
take_first es e =
    let long : length (es ++ e ∷ []) - 1 ≡ length es = let more = length-append es (e ∷ []) in omega (arith, more) in
    ap (λ (k : ℕ). take k (es ++ e ∷ [])) long ∙ take-append_seam es (e ∷ [])

-- the open endpoints keep step with the stack
pub ends_looked : (t : Tables) (g : Graph) (fs : List Frame) (f : Frame) (results known : List Entry) (d : Endpoint) →
    ends_after (ends_open (fs ++ f ∷ [])) d (answer_met (is_end_among (ends_open fs ++ f.at ∷ []) d) results known d)
    ≡ ends_open (fs ++ frames_after t g f d (answer_met (is_end_among (ends_open fs ++ f.at ∷ []) d) results known d))
ends_looked t g fs f results known d = by_case (is_end_among (ends_open fs ++ f.at ∷ []) d) refl (or_else (value_in results d) (value_in known d))
  where
    by_case : (b : Bool) → is_end_among (ends_open fs ++ f.at ∷ []) d ≡ b → (o : Option Answer) →
        ends_after (ends_open (fs ++ f ∷ [])) d (cond b (Some answer.Cycle) o) ≡ ends_open (fs ++ frames_after t g f d (cond b (Some answer.Cycle) o))
    by_case true is o = ends_push fs f ∙ sym (ends_push fs (with_answer f answer.Cycle))
    by_case false is (Some a) = ends_push fs f ∙ sym (ends_push fs (with_answer f a))
    by_case false is None =
        ap (λ (z : List Endpoint). cond (is_end_among z d) z (z ++ d ∷ [])) (ends_push fs f)
        ∙ ap (λ b. cond b (ends_open fs ++ f.at ∷ []) ((ends_open fs ++ f.at ∷ []) ++ d ∷ [])) is
        ∙ append_assoc (ends_open fs) (f.at ∷ []) (d ∷ [])
        ∙ sym (map-append (λ z. z.at) fs (f ∷ opened t g d ∷ []))

-- what holds while endpoints are open
pub record Going (t : Tables) (g : Graph) (known : List Entry) (all : Evaluated) (stack : List Frame) (results : List Entry) (hits : List Endpoint) : Type 0 where
  pub frames : (f : Frame) → Contains stack f → IsFrame t g f
  pub way : IsWay (dependencies t g) (ends_open stack)
  pub once : IsTrue (ends_once (ends_open stack))
  pub few : length stack ≤ enough_fuel t g
  pub apart : AreApart (ends_open stack) (ends_of results)
  pub right : AreValues t g results
  pub left : unwound (dependencies t g) (ends_of known) (map open_of stack) (enough_fuel t g) [] (so_far results hits) ≡ all

once-first : (es : List Endpoint) (e : Endpoint) → IsTrue (ends_once (es ++ e ∷ [])) → IsTrue (ends_once es)
once-first [] e h = refl
once-first (x ∷ es) e h =
    let both = and_parts (not (is_end_among (es ++ e ∷ []) x)) (ends_once (es ++ e ∷ [])) h in
    let apart = or_parts (is_end_among es x) (same_end x e) (sym (among-push ends_tell es e x) ∙ not-true _ both.0) in
    and_from _ _ (not_from_false _ apart.0) (once-first es e both.1)

-- ---- a round at a frame that has all answers

module _ {t : Tables} {g : Graph} (sound : IsSound t g) (laws : AreTables t) {known : List Entry} {all : Evaluated} (fs : List Frame) (f : Frame) {results : List Entry} {hits : List Endpoint}
    (going : Going t g known all (fs ++ f ∷ []) results hits) where
  pub last : IsFrame t g f
  last = going.frames f (Contains-append_right fs (f ∷ []) f (Contains-head f []))

  few_below : length fs + 1 ≤ suc (length (endpoints t g))
  few_below = let few = going.few in let long : length (fs ++ f ∷ []) ≡ length fs + 1 = length-append fs (f ∷ []) in omega (arith, few, long)

  way_here : IsWay (dependencies t g) (ends_open fs ++ f.at ∷ [])
  way_here = subst (IsWay (dependencies t g)) (ends_push fs f) going.way

  once_here : IsTrue (ends_once (ends_open fs ++ f.at ∷ []))
  once_here = subst (λ (z : List Endpoint). IsTrue (ends_once z)) (ends_push fs f) going.once

  apart_here : AreApart (ends_open fs ++ f.at ∷ []) (ends_of results)
  apart_here = subst (λ (z : List Endpoint). AreApart z (ends_of results)) (ends_push fs f) going.apart

  left_here : unwound (dependencies t g) (ends_of known) (map open_of fs ++ open_of f ∷ []) (enough_fuel t g) [] (so_far results hits) ≡ all
  left_here = ap (λ (z : List Open). unwound (dependencies t g) (ends_of known) z (enough_fuel t g) [] (so_far results hits)) (sym (map-append open_of fs (f ∷ []))) ∙ going.left

  -- it has no result yet
  pub new_result : value_in results f.at ≡ None
  new_result = none_from (value_in results f.at) (value_in-among results f.at ∙ apart_here f.at (among-push ends_tell (ends_open fs) f.at f.at ∙ or_right (is_end_among (ends_open fs) f.at) (same_end f.at f.at) (same_end-itself f.at)))

  -- the endpoints that are open after it
  pub way_dropped : take (length (ends_open (fs ++ f ∷ [])) - 1) (ends_open (fs ++ f ∷ [])) ≡ ends_open fs
  way_dropped = ap (λ (z : List Endpoint). take (length z - 1) z) (ends_push fs f) ∙ take_first (ends_open fs) f.at

  pub finished : slice_get f.needs (length f.answers) ≡ None → (a : Answer) → a ≡ answer_by t f.at (value_at t g) f.rule →
      Going t g known all fs (results ++ record { at = f.at; value = a } ∷ []) hits
  finished none a is = record {
    frames = λ x c. going.frames x (Contains-append_left fs (f ∷ []) x c);
    way = way-begins (dependencies t g) (ends_open fs) f.at way_here;
    once = once-first (ends_open fs) f.at once_here;
    few = let few = few_below in omega (arith, few);
    apart = λ x h. ap (λ (z : List Endpoint). is_end_among z x) (map-append (λ z. z.at) results (record { at = f.at; value = a } ∷ []))
        ∙ apart-done (ends_open fs) (ends_of results) f.at once_here apart_here x h;
    right = right-push t g results f.at a going.right (is ∙ frame_value sound laws last);
    left = left_next;
  }
    where
      fuel_is : enough_fuel t g ≡ fuel_above (dependencies t g) (ends_of known) (map open_of fs) (suc (length (endpoints t g) - length fs))
      fuel_is =
          let few = few_below in
          let above = fuel_above-is (dependencies t g) (ends_of known) (map open_of fs) (suc (length (endpoints t g) - length fs)) in
          let long : length (map open_of fs) ≡ length fs = length-map fs open_of in
          omega (arith, few, above, long)

      entries : ends_of (results ++ record { at = f.at; value = a } ∷ []) ≡ ends_of results ++ f.at ∷ []
      entries = map-append (λ z. z.at) results (record { at = f.at; value = a } ∷ [])

      none_more : open_of f ≡ record { at = f.at; rest = [] }
      none_more = ap (λ (z : List Endpoint). record { at = f.at; rest = z }) (none_left f none)

      step : unwound (dependencies t g) (ends_of known) (map open_of fs ++ open_of f ∷ []) (enough_fuel t g) [] (so_far results hits)
          ≡ unwound (dependencies t g) (ends_of known) (map open_of fs ++ []) (enough_fuel t g) [] (with_end (so_far results hits) f.at)
      step =
          ap (λ (z : Open). unwound (dependencies t g) (ends_of known) (map open_of fs ++ z ∷ []) (enough_fuel t g) [] (so_far results hits)) none_more
          ∙ at_top t g known fs (enough_fuel t g) (suc (length (endpoints t g) - length fs)) (so_far results hits) (with_end (so_far results hits) f.at) (record { at = f.at; rest = [] } ∷ []) [] fuel_is
          (step_finish (dependencies t g) (ends_of known) (length (endpoints t g) - length fs) (ends_open fs) (so_far results hits) f.at)

      left_next : unwound (dependencies t g) (ends_of known) (map open_of fs) (enough_fuel t g) [] (so_far (results ++ record { at = f.at; value = a } ∷ []) hits) ≡ all
      left_next =
          ap (λ (z : List Endpoint). unwound (dependencies t g) (ends_of known) (map open_of fs) (enough_fuel t g) [] (record { listed = z; hits = hits })) entries
          ∙ ap (λ (z : List Open). unwound (dependencies t g) (ends_of known) z (enough_fuel t g) [] (with_end (so_far results hits) f.at)) (sym (append-nil (map open_of fs)))
          ∙ sym step
          ∙ left_here

  -- ---- a round at a frame that needs one more answer

  module _ (d : Endpoint) (next : slice_get f.needs (length f.answers) ≡ Some d) where
    needed : Contains (dependencies t g f.at) d
    needed = next_needed last d next

    way_on : IsWay (dependencies t g) ((ends_open fs ++ f.at ∷ []) ++ d ∷ [])
    way_on = way-push (dependencies t g) (ends_open fs) f.at d way_here needed

    deep : length fs + 1 ≤ length (endpoints t g)
    deep =
        let most = at_most (endpoints t g) (ends_open fs ++ f.at ∷ []) once_here (λ p c.
        let o = way-next (dependencies t g) (ends_open fs ++ f.at ∷ []) d way_on p c in dependent sound laws p o.0 o.2) in
        let long : length (ends_open fs ++ f.at ∷ []) ≡ length (ends_open fs) + 1 = length-append (ends_open fs) (f.at ∷ []) in
        let same : length (ends_open fs) ≡ length fs = length-map fs (λ z. z.at) in
        omega (arith, most, long, same)

    fuel_deep : enough_fuel t g ≡ fuel_above (dependencies t g) (ends_of known) (map open_of fs) (suc (suc (length (endpoints t g) - suc (length fs))))
    fuel_deep =
        let few = deep in
        let above = fuel_above-is (dependencies t g) (ends_of known) (map open_of fs) (suc (suc (length (endpoints t g) - suc (length fs)))) in
        let long : length (map open_of fs) ≡ length fs = length-map fs open_of in
        omega (arith, few, above, long)

    opens_here : open_of f ≡ record { at = f.at; rest = d ∷ drop (length f.answers + 1) f.needs }
    opens_here = ap (λ (z : List Endpoint). record { at = f.at; rest = z }) (next_of f d next)

    opens_next : open_of (with_answer f (value_at t g d)) ≡ record { at = f.at; rest = drop (length f.answers + 1) f.needs }
    opens_next = ap (λ (k : ℕ). record { at = f.at; rest = drop k f.needs }) (length-append f.answers (value_at t g d ∷ []))

    -- what changes at the last frames
    left_after : (w' : Evaluated) (gs : List Open) →
        unwound (dependencies t g) (ends_of known) (record { at = f.at; rest = d ∷ drop (length f.answers + 1) f.needs } ∷ []) (suc (suc (length (endpoints t g) - suc (length fs)))) (ends_open fs) (so_far results hits)
        ≡ unwound (dependencies t g) (ends_of known) gs (suc (suc (length (endpoints t g) - suc (length fs)))) (ends_open fs) w' →
        unwound (dependencies t g) (ends_of known) (map open_of fs ++ gs) (enough_fuel t g) [] w' ≡ all
    left_after w' gs step =
        sym (ap (λ (z : Open). unwound (dependencies t g) (ends_of known) (map open_of fs ++ z ∷ []) (enough_fuel t g) [] (so_far results hits)) opens_here
        ∙ at_top t g known fs (enough_fuel t g) (suc (suc (length (endpoints t g) - suc (length fs)))) (so_far results hits) w' (record { at = f.at; rest = d ∷ drop (length f.answers + 1) f.needs } ∷ []) gs fuel_deep step)
        ∙ left_here

    -- with an answer more
    answered : (a : Answer) → a ≡ value_at t g d → (hits' : List Endpoint) →
        unwound (dependencies t g) (ends_of known) (record { at = f.at; rest = d ∷ drop (length f.answers + 1) f.needs } ∷ []) (suc (suc (length (endpoints t g) - suc (length fs)))) (ends_open fs) (so_far results hits)
        ≡ unwound (dependencies t g) (ends_of known) (record { at = f.at; rest = drop (length f.answers + 1) f.needs } ∷ []) (suc (suc (length (endpoints t g) - suc (length fs)))) (ends_open fs) (so_far results hits') →
        Going t g known all (fs ++ with_answer f a ∷ []) results hits'
    answered a is hits' step = subst (λ (z : Answer). Going t g known all (fs ++ with_answer f z ∷ []) results hits') (sym is) (record {
      frames = λ x c. elim (Contains-append_cases fs (with_answer f (value_at t g d) ∷ []) x c) [
        | inl below ↦ going.frames x (Contains-append_left fs (f ∷ []) x below)
        | inr here ↦ elim (Contains-cases (with_answer f (value_at t g d)) [] x here) [
          | inl same ↦ subst (IsFrame t g) same (frame_next last d next)
          | inr none ↦ Contains-none x none
        ]
      ];
      way = subst (IsWay (dependencies t g)) (sym (ends_push fs (with_answer f (value_at t g d)))) way_here;
      once = subst (λ (z : List Endpoint). IsTrue (ends_once z)) (sym (ends_push fs (with_answer f (value_at t g d)))) once_here;
      few = let few = few_below in let long : length (fs ++ with_answer f (value_at t g d) ∷ []) ≡ length fs + 1 = length-append fs (with_answer f (value_at t g d) ∷ []) in omega (arith, few, long);
      apart = subst (λ (z : List Endpoint). AreApart z (ends_of results)) (sym (ends_push fs (with_answer f (value_at t g d)))) apart_here;
      right = going.right;
      left =
          ap (λ (z : List Open). unwound (dependencies t g) (ends_of known) z (enough_fuel t g) [] (so_far results hits')) (map-append open_of fs (with_answer f (value_at t g d) ∷ []))
          ∙ ap (λ (z : Open). unwound (dependencies t g) (ends_of known) (map open_of fs ++ z ∷ []) (enough_fuel t g) [] (so_far results hits')) opens_next
          ∙ left_after (so_far results hits') (record { at = f.at; rest = drop (length f.answers + 1) f.needs } ∷ []) step;
    })

    -- with a frame more
    entered : was_met (ends_open fs ++ f.at ∷ []) (so_far results hits) d ≡ false → is_end_among (ends_of known) d ≡ false →
        Going t g known all (fs ++ f ∷ opened t g d ∷ []) results hits
    entered new none =
        let apart = or_parts (is_end_among (ends_open fs ++ f.at ∷ []) d) (is_end_among (ends_of results) d) new in
        let ends : ends_open (fs ++ f ∷ opened t g d ∷ []) ≡ (ends_open fs ++ f.at ∷ []) ++ d ∷ [] =
        map-append (λ z. z.at) fs (f ∷ opened t g d ∷ []) ∙ sym (append_assoc (ends_open fs) (f.at ∷ []) (d ∷ [])) in
        record {
          frames = λ x c. elim (Contains-append_cases fs (f ∷ opened t g d ∷ []) x c) [
            | inl below ↦ going.frames x (Contains-append_left fs (f ∷ []) x below)
            | inr here ↦ elim (Contains-cases f (opened t g d ∷ []) x here) [
              | inl same ↦ subst (IsFrame t g) same last
              | inr later ↦ elim (Contains-cases (opened t g d) [] x later) [
                | inl same ↦ subst (IsFrame t g) same (frame_opened t g d)
                | inr none ↦ Contains-none x none
              ]
            ]
          ];
          way = subst (IsWay (dependencies t g)) (sym ends) way_on;
          once = subst (λ (z : List Endpoint). IsTrue (ends_once z)) (sym ends) (ends_once-push (ends_open fs ++ f.at ∷ []) d once_here apart.0);
          few = let few = deep in let long : length (fs ++ f ∷ opened t g d ∷ []) ≡ length fs + 2 = length-append fs (f ∷ opened t g d ∷ []) in omega (arith, few, long);
          apart = subst (λ (z : List Endpoint). AreApart z (ends_of results)) (sym ends) (apart-push (ends_open fs ++ f.at ∷ []) (ends_of results) d apart_here apart.1);
          right = going.right;
          left =
              ap (λ (z : List Open). unwound (dependencies t g) (ends_of known) z (enough_fuel t g) [] (so_far results hits)) (map-append open_of fs (f ∷ opened t g d ∷ []))
              ∙ ap (λ (z : Open). unwound (dependencies t g) (ends_of known) (map open_of fs ++ z ∷ record { at = d; rest = dependencies t g d } ∷ []) (enough_fuel t g) [] (so_far results hits)) opens_here
              ∙ left_after (so_far results hits) (record { at = f.at; rest = d ∷ drop (length f.answers + 1) f.needs } ∷ record { at = d; rest = dependencies t g d } ∷ [])
              (step_enter (dependencies t g) (ends_of known) (length (endpoints t g) - suc (length fs)) (ends_open fs) (so_far results hits) f.at d (drop (length f.answers + 1) f.needs) new none);
        }

    hit_same : with_hit (so_far results hits) d ≡ so_far results (cond (is_end_among hits d) hits (hits ++ d ∷ []))
    hit_same = elim (is_end_among hits d) as (λ b. cond b (so_far results hits) (record { listed = ends_of results; hits = hits ++ d ∷ [] }) ≡ so_far results (cond b hits (hits ++ d ∷ []))) [ true ↦ refl | false ↦ refl ]

    -- after a look at the next endpoint
    pub looked : AreValues t g known →
        Going t g known all (fs ++ frames_after t g f d (answer_met (is_end_among (ends_open fs ++ f.at ∷ []) d) results known d)) results
        (hits_after (is_end_among (ends_open fs ++ f.at ∷ []) d) results known hits d)
    looked known_right = by_case (is_end_among (ends_open fs ++ f.at ∷ []) d) refl (value_in results d) refl (value_in known d) refl
      where
        by_case : (b : Bool) → is_end_among (ends_open fs ++ f.at ∷ []) d ≡ b → (r : Option Answer) → value_in results d ≡ r → (k : Option Answer) → value_in known d ≡ k →
            Going t g known all (fs ++ frames_after t g f d (cond b (Some answer.Cycle) (or_else r k))) results (cond b hits (hits_by r k hits d))
        by_case true open_ r er k ek =
            answered answer.Cycle (sym (open_is_cycle t g (ends_open fs ++ f.at ∷ []) d way_on (Contains_from_among ends_tell (ends_open fs ++ f.at ∷ []) d open_))) hits
            (step_met (dependencies t g) (ends_of known) (length (endpoints t g) - suc (length fs)) (ends_open fs) (so_far results hits) f.at d (drop (length f.answers + 1) f.needs)
            (or_left _ (is_end_among (ends_of results) d) open_))
        by_case false new (Some a) er k ek =
            answered a (value_in-right t g results d a going.right er) hits
            (step_met (dependencies t g) (ends_of known) (length (endpoints t g) - suc (length fs)) (ends_open fs) (so_far results hits) f.at d (drop (length f.answers + 1) f.needs)
            (or_right (is_end_among (ends_open fs ++ f.at ∷ []) d) _ (sym (value_in-among results d) ∙ ap is_some er)))
        by_case false new None er (Some a) ek =
            answered a (value_in-right t g known d a known_right ek) (cond (is_end_among hits d) hits (hits ++ d ∷ []))
            (step_hit (dependencies t g) (ends_of known) (length (endpoints t g) - suc (length fs)) (ends_open fs) (so_far results hits) f.at d (drop (length f.answers + 1) f.needs)
            (or_from (is_end_among (ends_open fs ++ f.at ∷ []) d) (is_end_among (ends_of results) d) new (sym (value_in-among results d) ∙ ap is_some er)) (sym (value_in-among known d) ∙ ap is_some ek)
            ∙ ap (unwound (dependencies t g) (ends_of known) (record { at = f.at; rest = drop (length f.answers + 1) f.needs } ∷ []) (suc (suc (length (endpoints t g) - suc (length fs)))) (ends_open fs)) hit_same)
        by_case false new None er None ek =
            entered (or_from (is_end_among (ends_open fs ++ f.at ∷ []) d) (is_end_among (ends_of results) d) new (sym (value_in-among results d) ∙ ap is_some er)) (sym (value_in-among known d) ∙ ap is_some ek)

pub going-is : {t : Tables} {g : Graph} {known : List Entry} {all : Evaluated} {ss ss' : List Frame} {results results' : List Entry} {hits hits' : List Endpoint} →
    Going t g known all ss results hits → ss' ≡ ss → results' ≡ results → hits' ≡ hits → Going t g known all ss' results' hits'
going-is {t} {g} {known} {all} {ss} {ss'} {results} {results'} {hits} {hits'} h a b c =
    subst (λ (z : List Frame). Going t g known all z results' hits') (sym a) (
    subst (λ (z : List Entry). Going t g known all ss z hits') (sym b) (
    subst (λ (z : List Endpoint). Going t g known all ss results z) (sym c) h))

-- when nothing is open any more, the walk has come to its end
pub all_done : {t : Tables} {g : Graph} {known : List Entry} {all : Evaluated} {stack : List Frame} {results : List Entry} {hits : List Endpoint} →
    Going t g known all stack results hits → stack ≡ [] → so_far results hits ≡ all
all_done {t} {g} {known} {all} {stack} {results} {hits} going empty =
    subst (λ (z : List Frame). unwound (dependencies t g) (ends_of known) (map open_of z) (enough_fuel t g) [] (so_far results hits) ≡ all) empty going.left
