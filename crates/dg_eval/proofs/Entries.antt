-- Entries: which endpoints have one, and that each is right.
use Rattle.std.proofs.Common.{◌≡◌, ℕ, zero, suc, ◌+◌, ◌-◌, ◌<◌, ◌≤◌, ◌⊎◌, Bool, true, false, not, cond, ◌&&◌, ◌||◌, List, [], ◌∷◌, ◌++◌, Option, Some, None, map, fold, take, drop, length, get_or, is_some, Contains, IsTrue, refl, sym, ap, ◌∙◌, subst, inl, inr, arith, true≢false, append_assoc, append-nil, drop-cons, length-append, add-one}
use Rattle.std.proofs.lemmas.Bool.{and_parts, and_from, or_parts, not-true, not_from_false, false_from_ne_true, cases_Bool, or_left, or_right, or_from}
use Rattle.std.proofs.lemmas.List.{map-append, length-map}
use Rattle.std.proofs.lemmas.List.Elements.{Contains-append_left, Contains-append_right, Contains-append_cases}
use Rattle.std.proofs.lemmas.Option.{slice_get_within, slice_get_cases, get_or_from_slice_get}
use Rattle.std.proofs.Math.ListN.{drop_of_length-le}
use Rattle.std.proofs.Math.Seq.{take-append_seam, drop-append_seam}
use Rattle.std.specs.List.{slice_get}
use Rattle.dg_base.specs.declared.ids.Endpoint.{Endpoint}
use Rattle.dg_base.specs.declared.answer.Answer.{Answer}
use Rattle.dg_base.specs.declared.answer.Answer.TheVariants as answer
use Rattle.dg_base.specs.declared.rule.Rule.{Rule}
use Rattle.dg_base.specs.declared.rule.Rule.TheVariants as rule
use Rattle.dg_base.specs.Same.{same_end}
use Rattle.dg_base.specs.Order.{is_end_among}
use Rattle.dg_base.specs.Tables.{Tables, AreTables}
use Rattle.dg_base.specs.Graph.{Graph}
use Rattle.dg_base.specs.Sound.{IsSound}
use Rattle.dg_base.specs.Rule.{rule_of, named_by, dependencies, endpoints}
use Rattle.dg_base.specs.Value.{answer_by, productions_by, value_within, enough_fuel, value_at}
use Rattle.dg_base.specs.Evaluation.{Evaluated, with_hit, with_end, was_met, evaluated_within, evaluated, productions_at, productions}
use Rattle.dg_laws.proofs.Members.{Contains-head, Contains-tail, Contains-cases, Contains-none}
use Rattle.dg_laws.proofs.Among.{among-push, Contains_from_among}
use Rattle.dg_laws.proofs.Ends.{same_end-is, same_end-itself, ends_tell}
use Rattle.dg_laws.proofs.Nodes.{IsLinked-from_sound}
use Rattle.dg_laws.proofs.Endpoints.{covers}
use Rattle.dg_laws.proofs.Fuel.{value-rule}
use Rattle.dg_laws.proofs.Endless.{IsWay, way-next, open_is_cycle}
use Rattle.dg_walks.proofs.Unwinding.{Open, way_of, unwound, fuel_above, fuel_above-is, lift, step_met, step_hit, step_enter, step_finish}
use Rattle.dg_walks.proofs.OpenEnds.{ends_once, ends_once-push, AreApart, apart-push, apart-done, at_most, way-push, way-begins}
use Rattle.dg_walks.proofs.Growing.{Begins, begins-same, begins-then, evaluated-begins, unwound-begins}
use Rattle.dg_cache.specs.declared.entry.Entry.{Entry}
use Rattle.dg_cache.specs.Entries.{ends_of, value_in}
use Rattle.dg_eval.specs.declared.frame.Frame.{Frame}
use Rattle.dg_offer.specs.Offers.{AreValues}
use Rattle.dg_eval.specs.Results.{so_far, newly_listed}
use Rattle.dg_eval.specs.Frames.{ends_open, opened, with_answer, or_else, answer_met, frames_after, ends_after, hits_by, hits_after}

pub value_in-right : (t : Tables) (g : Graph) (xs : List Entry) (e : Endpoint) (a : Answer) → AreValues t g xs → value_in xs e ≡ Some a → a ≡ value_at t g e
value_in-right t g [] e a right is = let no : ⊥ = cc in absurd no
value_in-right t g (x ∷ xs) e a right is = by_test (same_end e x.at) refl is (λ k. value_in-right t g xs e a (λ z c. right z (Contains-tail x xs z c)) k)
  where
    by_test : (b : Bool) → same_end e x.at ≡ b → cond b (Some x.value) (value_in xs e) ≡ Some a → (value_in xs e ≡ Some a → a ≡ value_at t g e) → a ≡ value_at t g e
    by_test true same is later = let here : x.value ≡ a = cc in sym here ∙ right x (Contains-head x xs) ∙ sym (ap (value_at t g) (same_end-is e x.at same))
    by_test false same is later = later is

pub right-push : (t : Tables) (g : Graph) (xs : List Entry) (e : Endpoint) (a : Answer) → AreValues t g xs → a ≡ value_at t g e → AreValues t g (xs ++ record { at = e; value = a } ∷ [])
right-push t g xs e a right is x c =
    elim (Contains-append_cases xs (record { at = e; value = a } ∷ []) x c) [
      | inl below ↦ right x below
      | inr here ↦ elim (Contains-cases (record { at = e; value = a }) [] x here) [
        | inl same ↦ subst (λ (z : Entry). z.value ≡ value_at t g z.at) same is
        | inr none ↦ Contains-none x none
      ]
    ]

pub value_in-among : (xs : List Entry) (e : Endpoint) → is_some (value_in xs e) ≡ is_end_among (ends_of xs) e
value_in-among [] e = refl
value_in-among (x ∷ xs) e =
    let rest = value_in-among xs e in
    elim (same_end e x.at) as (λ b. is_some (cond b (Some x.value) (value_in xs e)) ≡ (b || is_end_among (ends_of xs) e)) [ true ↦ refl | false ↦ rest ]

pub none_from : {X : Type 0} (o : Option X) → is_some o ≡ false → o ≡ None
none_from (Some x) h = absurd (true≢false h)
none_from None h = refl
