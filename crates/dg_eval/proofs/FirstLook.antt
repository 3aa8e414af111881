-- The first look of an evaluation, and what it has when nothing is open any more.
use Rattle.std.proofs.Common.{◌≡◌, ℕ, zero, suc, ◌+◌, ◌-◌, ◌<◌, ◌≤◌, ◌⊎◌, Bool, true, false, not, cond, ◌&&◌, ◌||◌, List, [], ◌∷◌, ◌++◌, Option, Some, None, map, fold, take, drop, length, get_or, is_some, Contains, IsTrue, refl, sym, ap, ◌∙◌, subst, inl, inr, arith, true≢false, append_assoc, append-nil, drop-cons, length-append, add-one}
use Rattle.std.proofs.lemmas.Bool.{and_parts, and_from, or_parts, not-true, not_from_false, false_from_ne_true, cases_Bool, or_left, or_right, or_from}
use Rattle.std.proofs.lemmas.List.{map-append, length-map}
use Rattle.std.proofs.lemmas.List.Elements.{Contains-append_left, Contains-append_right, Contains-append_cases}
use Rattle.std.proofs.lemmas.Option.{slice_get_within, slice_get_cases, get_or_from_slice_get}
use Rattle.std.proofs.Math.ListN.{drop_of_length-le}
use Rattle.std.proofs.Math.Seq.{take-append_seam, drop-append_seam}
use Rattle.std.specs.List.{slice_get}
use Rattle.dg_base.specs.declared.ids.Endpoint.{Endpoint}
use Rattle.dg_base.specs.declared.answer.Answer.{Answer}
use Rattle.dg_base.specs.declared.answer.Answer.TheVariants as answer
use Rattle.dg_base.specs.declared.rule.Rule.{Rule}
use Rattle.dg_base.specs.declared.rule.Rule.TheVariants as rule
use Rattle.dg_base.specs.Same.{same_end}
use Rattle.dg_base.specs.Order.{is_end_among}
use Rattle.dg_base.specs.Tables.{Tables, AreTables}
use Rattle.dg_base.specs.Graph.{Graph}
use Rattle.dg_base.specs.Sound.{IsSound}
use Rattle.dg_base.specs.Rule.{rule_of, named_by, dependencies, endpoints}
use Rattle.dg_base.specs.Value.{answer_by, productions_by, value_within, enough_fuel, value_at}
use Rattle.dg_base.specs.Evaluation.{Evaluated, with_hit, with_end, was_met, evaluated_within, evaluated, productions_at, productions}
use Rattle.dg_laws.proofs.Members.{Contains-head, Contains-tail, Contains-cases, Contains-none}
use Rattle.dg_laws.proofs.Among.{among-push, Contains_from_among}
use Rattle.dg_laws.proofs.Ends.{same_end-is, same_end-itself, ends_tell}
use Rattle.dg_laws.proofs.Nodes.{IsLinked-from_sound}
use Rattle.dg_laws.proofs.Endpoints.{covers}
use Rattle.dg_laws.proofs.Fuel.{value-rule}
use Rattle.dg_laws.proofs.Endless.{IsWay, way-next, open_is_cycle}
use Rattle.dg_walks.proofs.Unwinding.{Open, way_of, unwound, fuel_above, fuel_above-is, lift, step_met, step_hit, step_enter, step_finish}
use Rattle.dg_walks.proofs.OpenEnds.{ends_once, ends_once-push, AreApart, apart-push, apart-done, at_most, way-push, way-begins}
use Rattle.dg_walks.proofs.Growing.{Begins, begins-same, begins-then, evaluated-begins, unwound-begins}
use Rattle.dg_cache.specs.declared.entry.Entry.{Entry}
use Rattle.dg_cache.specs.Entries.{ends_of, value_in}
use Rattle.dg_eval.specs.declared.frame.Frame.{Frame}
use Rattle.dg_offer.specs.Offers.{AreValues}
use Rattle.dg_eval.specs.Results.{so_far, newly_listed}
use Rattle.dg_eval.specs.Frames.{ends_open, opened, with_answer, or_else, answer_met, frames_after, ends_after, hits_by, hits_after}
use Rattle.dg_eval.proofs.Frames.{open_of, IsFrame, frame_opened}
use Rattle.dg_eval.proofs.Entries.{value_in-right, value_in-among}
use Rattle.dg_eval.proofs.Rounds.{Going, all_done}

module _ (t : Tables) (g : Graph) (known results : List Entry) (hits : List Endpoint) (e : Endpoint) where
  entered_first : Evaluated
  entered_first = with_end (fold (evaluated_within (length (endpoints t g)) (dependencies t g) (ends_of known) (e ∷ [])) (so_far results hits) (dependencies t g e)) e

  walk_at : (b k : Bool) → is_end_among (ends_of results) e ≡ b → is_end_among (ends_of known) e ≡ k →
      evaluated t g (ends_of known) (so_far results hits) e ≡ cond b (so_far results hits) (cond k (with_hit (so_far results hits) e) entered_first)
  unfolding entered_first
  walk_at b k eb ek =
      ap (λ z. cond z (so_far results hits) (cond (is_end_among (ends_of known) e) (with_hit (so_far results hits) e) entered_first)) eb
      ∙ ap (λ z. cond b (so_far results hits) (cond z (with_hit (so_far results hits) e) entered_first)) ek

  first_hit : so_far results (cond (is_end_among hits e) hits (hits ++ e ∷ [])) ≡ with_hit (so_far results hits) e
  first_hit = elim (is_end_among hits e) as (λ b. so_far results (cond b hits (hits ++ e ∷ [])) ≡ cond b (so_far results hits) (record { listed = ends_of results; hits = hits ++ e ∷ [] })) [ true ↦ refl | false ↦ refl ]

  -- one that was finished or is known
  pub met_value : AreValues t g known → AreValues t g results → (a : Answer) → answer_met false results known e ≡ Some a → a ≡ value_at t g e
  met_value known_right right a is = by_case (value_in results e) refl is
    where
      by_case : (r : Option Answer) → value_in results e ≡ r → or_else r (value_in known e) ≡ Some a → a ≡ value_at t g e
      by_case (Some b) er is = value_in-right t g results e a right (er ∙ is)
      by_case None er is = value_in-right t g known e a known_right is

  pub met_walk : (a : Answer) → answer_met false results known e ≡ Some a → so_far results (hits_after false results known hits e) ≡ evaluated t g (ends_of known) (so_far results hits) e
  met_walk a is = by_case (value_in results e) refl (value_in known e) refl is
    where
      by_case : (r : Option Answer) → value_in results e ≡ r → (k : Option Answer) → value_in known e ≡ k → or_else r k ≡ Some a →
          so_far results (hits_by r k hits e) ≡ evaluated t g (ends_of known) (so_far results hits) e
      by_case (Some b) er k ek is = sym (walk_at true (is_end_among (ends_of known) e) (sym (value_in-among results e) ∙ ap is_some er) refl)
      by_case None er (Some b) ek is = first_hit ∙ sym (walk_at false true (sym (value_in-among results e) ∙ ap is_some er) (sym (value_in-among known e) ∙ ap is_some ek))
      by_case None er None ek is = let no : ⊥ = cc in absurd no

  -- one that is entered
  pub begun : AreValues t g results → answer_met false results known e ≡ None → Going t g known (evaluated t g (ends_of known) (so_far results hits) e) (opened t g e ∷ []) results (hits_after false results known hits e)
  unfolding entered_first
  begun right is = by_case (value_in results e) refl (value_in known e) refl is
    where
      by_case : (r : Option Answer) → value_in results e ≡ r → (k : Option Answer) → value_in known e ≡ k → or_else r k ≡ None →
          Going t g known (evaluated t g (ends_of known) (so_far results hits) e) (opened t g e ∷ []) results (hits_by r k hits e)
      by_case (Some b) er k ek is = let no : ⊥ = cc in absurd no
      by_case None er (Some b) ek is = let no : ⊥ = cc in absurd no
      by_case None er None ek is = record {
        frames = λ x c. elim (Contains-cases (opened t g e) [] x c) [
          | inl same ↦ subst (IsFrame t g) same (frame_opened t g e)
          | inr none ↦ Contains-none x none
        ];
        way = tt;
        once = refl;
        few = omega arith;
        apart = apart-push [] (ends_of results) e (λ x h. absurd (true≢false (sym h))) (sym (value_in-among results e) ∙ ap is_some er);
        right = right;
        left = sym (walk_at false false (sym (value_in-among results e) ∙ ap is_some er) (sym (value_in-among known e) ∙ ap is_some ek));
      }

  -- it is listed, last
  listed_last : answer_met false results known e ≡ None → is_end_among (evaluated t g (ends_of known) (so_far results hits) e).listed e ≡ true
  unfolding entered_first
  listed_last is = by_case (value_in results e) refl (value_in known e) refl is
    where
      by_case : (r : Option Answer) → value_in results e ≡ r → (k : Option Answer) → value_in known e ≡ k → or_else r k ≡ None →
          is_end_among (evaluated t g (ends_of known) (so_far results hits) e).listed e ≡ true
      by_case (Some b) er k ek is = let no : ⊥ = cc in absurd no
      by_case None er (Some b) ek is = let no : ⊥ = cc in absurd no
      by_case None er None ek is =
          ap (λ (z : Evaluated). is_end_among z.listed e) (walk_at false false (sym (value_in-among results e) ∙ ap is_some er) (sym (value_in-among known e) ∙ ap is_some ek))
          ∙ among-push ends_tell (fold (evaluated_within (length (endpoints t g)) (dependencies t g) (ends_of known) (e ∷ [])) (so_far results hits) (dependencies t g e)).listed e e
          ∙ or_right _ (same_end e e) (same_end-itself e)

  -- so it has a result once nothing is open
  pub at_end : answer_met false results known e ≡ None → {results' : List Entry} {hits' : List Endpoint} {stack : List Frame} → stack ≡ [] →
      Going t g known (evaluated t g (ends_of known) (so_far results hits) e) stack results' hits' → is_end_among (ends_of results') e ≡ true
  at_end none empty going = ap (λ (z : Evaluated). is_end_among z.listed e) (all_done going empty) ∙ listed_last none
