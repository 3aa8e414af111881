-- What an edit gives, and that it keeps an editor right.
use Rattle.std.proofs.Common.{◌≡◌, ℕ, ◌+◌, ◌<◌, ◌≤◌, cond, nat_eq, List, [], ◌∷◌, length, Ok, Err, Result, IsTrue, refl, sym, ap, ◌∙◌, subst, arith}
use Rattle.std.proofs.lemmas.List.Elements.{All-nil, All-cons}
use Rattle.dg_base.specs.declared.ids.Endpoint.{Endpoint}
use Rattle.dg_base.specs.declared.limits.TheConstants.{REVISIONS}
use Rattle.dg_base.specs.declared.step.Step.{Step}
use Rattle.dg_base.specs.declared.step.RefusedStep.{RefusedStep}
use Rattle.dg_base.specs.Tables.{Tables}
use Rattle.dg_base.specs.Sound.{IsSound, ids_below}
use Rattle.dg_base.specs.Transact.{Applied, applied}
use Rattle.dg_history.specs.History.{History, recorded}
use Rattle.dg_line.specs.Revisions.{Seen, followed}
use Rattle.dg_editor.specs.declared.cause.EditCause.{EditCause}
use Rattle.dg_editor.specs.declared.cause.EditCause.TheVariants as edit
use Rattle.dg_editor.specs.Changes.{Changed}
use Rattle.dg_editor.specs.Machine.{State, advanced, change_by, as_cause, edited_to, edited_by, edited}
use Rattle.dg_editor.specs.Fits.{IsBelow, IsRight}
use Rattle.dg_editor.specs.Seeing.{Editing, state_of}
use Rattle.dg_editor.proofs.Rights.{no-limit, limit, state-is, advanced-right, below-more, below-all}

pub edit-full : (t : Tables) (s : State) (ss : List Step) → (length ss ≡ 0 → ⊥) → s.now.number + 1 ≡ REVISIONS → edited t s ss ≡ Err edit.LineFull
edit-full t s [] some full = absurd (some refl)
edit-full t s (x ∷ xs) some full = ap (λ b. cond b (Err edit.LineFull) (edited_by t s (applied t s.now.graph s.now.next (x ∷ xs)))) (limit s.now.number full)

-- where there is room, the edit is what its steps are
pub edit-gives : (t : Tables) (s : State) (ss : List Step) → (length ss ≡ 0 → ⊥) → s.now.number + 1 < REVISIONS → edited t s ss ≡ edited_by t s (applied t s.now.graph s.now.next ss)
edit-gives t s [] some room = absurd (some refl)
edit-gives t s (x ∷ xs) some room = ap (λ b. cond b (Err edit.LineFull) (edited_by t s (applied t s.now.graph s.now.next (x ∷ xs)))) (no-limit s.now.number room)

-- a step that is refused
refused-by : (t : Tables) (s : State) (r : Result Applied RefusedStep) (cause : EditCause) → as_cause r ≡ Err cause → edited_by t s r ≡ Err cause
refused-by t s (Ok a) cause e = let no : ⊥ = cc in absurd no
refused-by t s (Err r) cause e = let same : edit.Refused r ≡ cause = cc in ap (λ (c : EditCause). Err c) same

pub edit-refused : (t : Tables) (s : State) (ss : List Step) → (length ss ≡ 0 → ⊥) → s.now.number + 1 < REVISIONS → (cause : EditCause) →
    as_cause (applied t s.now.graph s.now.next ss) ≡ Err cause → edited t s ss ≡ Err cause
edit-refused t s ss some room cause e = edit-gives t s ss some room ∙ refused-by t s (applied t s.now.graph s.now.next ss) cause e

-- steps that are done
pub as-applied : (r : Result Applied RefusedStep) (a : Applied) → as_cause r ≡ Ok a → r ≡ Ok a
as-applied (Ok b) a e = cc
as-applied (Err r) a e = let no : ⊥ = cc in absurd no

pub record AfterEdit (t : Tables) (s : State) (ss : List Step) (new : State) : Type 0 where
  pub gives : edited t s ss ≡ Ok new
  pub right : IsRight t new

edited-right : (t : Tables) (s : State) → IsRight t s → (ss : List Step) → (length ss ≡ 0 → ⊥) → s.now.number + 1 < REVISIONS → (a : Applied) →
    applied t s.now.graph s.now.next ss ≡ Ok a → IsSound t a.graph → IsTrue (ids_below a.graph a.next) → s.now.next ≤ a.next → AfterEdit t s ss (edited_to t s a)
edited-right t s r ss some room a e sound below later =
    let one : 1 ≤ s.now.next = r.some in
    let c : Changed = change_by s a in
    record {
      gives = edit-gives t s ss some room ∙ ap (edited_by t s) e;
      right = advanced-right t s r a.graph a.next a.touched (recorded s.history c) sound (omega (arith, one, later)) below (refl, r.to) (record {})
          (All-cons (IsBelow a.next) c s.history.undo (below-more s.now.graph s.now.next a.next later r.below, below) (below-all s.history.undo s.now.next a.next later r.undo_below))
          (All-nil (IsBelow a.next));
    }

pub edit-done : {N M : Type 0} (t : Tables) (old new : Editing N M) → IsRight t (state_of old) → (ss : List Step) → (length ss ≡ 0 → ⊥) → old.here.revision.number + 1 < REVISIONS → (a : Applied) →
    as_cause (applied t old.here.revision.graph old.here.revision.next ss) ≡ Ok a → IsSound t a.graph → IsTrue (ids_below a.graph a.next) → old.here.revision.next ≤ a.next →
    (c : Changed) → c ≡ change_by (state_of old) a → (es : List Endpoint) → es ≡ c.touched →
    new.here.revision ≡ followed t old.here.revision a.graph a.next es → new.passed ≡ old.here ∷ old.passed → new.history ≡ recorded old.history c →
    AfterEdit t (state_of old) ss (state_of new)
edit-done t old new r ss some room a e sound below later c is es e_es now passed history =
    let s : State = state_of old in
    let same : state_of new ≡ edited_to t s a =
    state-is t old new a.graph a.next es (recorded s.history c) now passed history
    ∙ (λ i. advanced t s a.graph a.next ((e_es ∙ ap (λ (d : Changed). d.touched) is) i) (recorded s.history (is i)))
    in
    subst (AfterEdit t s ss) (sym same) (edited-right t s r ss some room a (as-applied (applied t s.now.graph s.now.next ss) a e) sound below later)
