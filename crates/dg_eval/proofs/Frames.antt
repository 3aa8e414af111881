-- What is known of an open endpoint.
use Rattle.std.proofs.Common.{◌≡◌, ℕ, zero, suc, ◌+◌, ◌-◌, ◌<◌, ◌≤◌, ◌⊎◌, Bool, true, false, not, cond, ◌&&◌, ◌||◌, List, [], ◌∷◌, ◌++◌, Option, Some, None, map, fold, take, drop, length, get_or, is_some, Contains, IsTrue, refl, sym, ap, ◌∙◌, subst, inl, inr, arith, true≢false, append_assoc, append-nil, drop-cons, length-append, add-one}
use Rattle.std.proofs.lemmas.Bool.{and_parts, and_from, or_parts, not-true, not_from_false, false_from_ne_true, cases_Bool, or_left, or_right, or_from}
use Rattle.std.proofs.lemmas.List.{map-append, length-map}
use Rattle.std.proofs.lemmas.List.Elements.{Contains-append_left, Contains-append_right, Contains-append_cases}
use Rattle.std.proofs.lemmas.Option.{slice_get_within, slice_get_cases, get_or_from_slice_get}
use Rattle.std.proofs.Math.ListN.{drop_of_length-le}
use Rattle.std.proofs.Math.Seq.{take-append_seam, drop-append_seam}
use Rattle.std.specs.List.{slice_get}
use Rattle.dg_base.specs.declared.ids.Endpoint.{Endpoint}
use Rattle.dg_base.specs.declared.answer.Answer.{Answer}
use Rattle.dg_base.specs.declared.answer.Answer.TheVariants as answer
use Rattle.dg_base.specs.declared.rule.Rule.{Rule}
use Rattle.dg_base.specs.declared.rule.Rule.TheVariants as rule
use Rattle.dg_base.specs.Same.{same_end}
use Rattle.dg_base.specs.Order.{is_end_among}
use Rattle.dg_base.specs.Tables.{Tables, AreTables}
use Rattle.dg_base.specs.Graph.{Graph}
use Rattle.dg_base.specs.Sound.{IsSound}
use Rattle.dg_base.specs.Rule.{rule_of, named_by, dependencies, endpoints}
use Rattle.dg_base.specs.Value.{answer_by, productions_by, value_within, enough_fuel, value_at}
use Rattle.dg_base.specs.Evaluation.{Evaluated, with_hit, with_end, was_met, evaluated_within, evaluated, productions_at, productions}
use Rattle.dg_laws.proofs.Members.{Contains-head, Contains-tail, Contains-cases, Contains-none}
use Rattle.dg_laws.proofs.Among.{among-push, Contains_from_among}
use Rattle.dg_laws.proofs.Ends.{same_end-is, same_end-itself, ends_tell}
use Rattle.dg_laws.proofs.Nodes.{IsLinked-from_sound}
use Rattle.dg_laws.proofs.Endpoints.{covers}
use Rattle.dg_laws.proofs.Fuel.{value-rule}
use Rattle.dg_laws.proofs.Endless.{IsWay, way-next, open_is_cycle}
use Rattle.dg_walks.proofs.Unwinding.{Open, way_of, unwound, fuel_above, fuel_above-is, lift, step_met, step_hit, step_enter, step_finish}
use Rattle.dg_walks.proofs.OpenEnds.{ends_once, ends_once-push, AreApart, apart-push, apart-done, at_most, way-push, way-begins}
use Rattle.dg_walks.proofs.Growing.{Begins, begins-same, begins-then, evaluated-begins, unwound-begins}
use Rattle.dg_cache.specs.declared.entry.Entry.{Entry}
use Rattle.dg_cache.specs.Entries.{ends_of, value_in}
use Rattle.dg_eval.specs.declared.frame.Frame.{Frame}
use Rattle.dg_offer.specs.Offers.{AreValues}
use Rattle.dg_eval.specs.Results.{so_far, newly_listed}
use Rattle.dg_eval.specs.Frames.{ends_open, opened, with_answer, or_else, answer_met, frames_after, ends_after, hits_by, hits_after}

abbrev pub rest_of : Frame → List Endpoint
rest_of f = drop (length f.answers) f.needs

abbrev pub open_of : Frame → Open
open_of f = record { at = f.at; rest = rest_of f }

-- the frame has its endpoint's rule, and the values of the first endpoints that it needs
pub record IsFrame (t : Tables) (g : Graph) (f : Frame) : Type 0 where
  pub rule : f.rule ≡ rule_of t g f.at
  pub needs : f.needs ≡ dependencies t g f.at
  pub answers : f.answers ++ map (value_at t g) (rest_of f) ≡ map (value_at t g) f.needs

-- the next endpoint that it needs
pub next_of : (f : Frame) (d : Endpoint) → slice_get f.needs (length f.answers) ≡ Some d → rest_of f ≡ d ∷ drop (length f.answers + 1) f.needs
next_of f d is =
    let within = slice_get_within f.needs (length f.answers) d is in
    drop-cons f.needs (length f.answers) d within
    ∙ ap (λ (z : Endpoint). z ∷ drop (suc (length f.answers)) f.needs) (get_or_from_slice_get f.needs (length f.answers) d d is)
    ∙ ap (λ (k : ℕ). d ∷ drop k f.needs) (sym (add-one (length f.answers)))

past_end : {X : Type 0} (xs : List X) (i : ℕ) → slice_get xs i ≡ None → length xs ≤ i
past_end xs i none =
    elim (slice_get_cases xs i).1 [
      | inl there ↦ let no : ⊥ = cc in absurd no
      | inr past ↦ past.0
    ]

pub none_left : (f : Frame) → slice_get f.needs (length f.answers) ≡ None → rest_of f ≡ []
none_left f is = drop_of_length-le f.needs (past_end f.needs (length f.answers) is)

-- what a rule names stands in its endpoint's dependencies
pub next_needed : {t : Tables} {g : Graph} {f : Frame} → IsFrame t g f → (d : Endpoint) → slice_get f.needs (length f.answers) ≡ Some d → Contains (dependencies t g f.at) d
next_needed {t} {g} {f} i d is =
    let within = slice_get_within f.needs (length f.answers) d is in
    subst (λ (z : List Endpoint). Contains z d) i.needs (length f.answers, within, get_or_from_slice_get f.needs (length f.answers) d d is)

-- a frame without a next endpoint has all values
all_there : {t : Tables} {g : Graph} {f : Frame} → IsFrame t g f → slice_get f.needs (length f.answers) ≡ None → f.answers ≡ map (value_at t g) (dependencies t g f.at)
all_there {t} {g} {f} i none =
    sym (append-nil f.answers)
    ∙ ap (λ (z : List Endpoint). f.answers ++ map (value_at t g) z) (sym (none_left f none))
    ∙ i.answers
    ∙ ap (map (value_at t g)) i.needs

pub named_there : {t : Tables} {g : Graph} {f : Frame} → IsFrame t g f → slice_get f.needs (length f.answers) ≡ None → f.answers ≡ map (value_at t g) (named_by f.rule)
named_there {t} {g} {f} i none = all_there i none ∙ ap (λ (r : Rule). map (value_at t g) (named_by r)) (sym i.rule)

pub frame_enough : {t : Tables} {g : Graph} {f : Frame} → IsFrame t g f → slice_get f.needs (length f.answers) ≡ None → length (named_by f.rule) ≡ length f.answers
frame_enough {t} {g} {f} i none = sym (ap length (named_there i none) ∙ length-map (named_by f.rule) (value_at t g))

-- what its rule makes of the values that it has is its endpoint's value
pub frame_value : {t : Tables} {g : Graph} → IsSound t g → AreTables t → {f : Frame} → IsFrame t g f → answer_by t f.at (value_at t g) f.rule ≡ value_at t g f.at
frame_value {t} {g} sound laws {f} i = ap (answer_by t f.at (value_at t g)) i.rule ∙ sym (value-rule sound laws f.at)

pub frame_productions : {t : Tables} {g : Graph} {f : Frame} → IsFrame t g f → productions_by t (value_at t g) f.rule ≡ productions_at t g f.at
frame_productions {t} {g} {f} i = ap (productions_by t (value_at t g)) i.rule

-- one answer more
pub frame_next : {t : Tables} {g : Graph} {f : Frame} → IsFrame t g f → (d : Endpoint) → slice_get f.needs (length f.answers) ≡ Some d → IsFrame t g (with_answer f (value_at t g d))
frame_next {t} {g} {f} i d is = record {
  rule = i.rule;
  needs = i.needs;
  answers =
      ap (λ (k : ℕ). (f.answers ++ value_at t g d ∷ []) ++ map (value_at t g) (drop k f.needs)) (length-append f.answers (value_at t g d ∷ []))
      ∙ append_assoc f.answers (value_at t g d ∷ []) (map (value_at t g) (drop (length f.answers + 1) f.needs))
      ∙ ap (λ (z : List Endpoint). f.answers ++ map (value_at t g) z) (sym (next_of f d is))
      ∙ i.answers;
}

pub frame_opened : (t : Tables) (g : Graph) (e : Endpoint) → IsFrame t g (opened t g e)
frame_opened t g e = record { rule = refl; needs = refl; answers = refl }
