-- What an undo and a redo give, and that they keep an editor right.
use Rattle.std.proofs.Common.{◌≡◌, ◌+◌, ◌<◌, Bool, cond, nat_eq, false, true, List, [], ◌∷◌, drop, Some, None, Ok, Err, All, refl, sym, ap, ◌∙◌, subst}
use Rattle.std.proofs.lemmas.List.Elements.{All-cons, All-head, All-tail}
use Rattle.dg_base.specs.declared.ids.Endpoint.{Endpoint}
use Rattle.dg_base.specs.declared.limits.TheConstants.{REVISIONS}
use Rattle.dg_base.specs.Tables.{Tables}
use Rattle.dg_base.specs.Graph.{Graph}
use Rattle.dg_base.specs.Sound.{IsSound}
use Rattle.dg_history.specs.History.{History, latest, undone_from, undone, redone_from, redone}
use Rattle.dg_line.specs.Revisions.{Seen, followed}
use Rattle.dg_editor.specs.declared.cause.EditCause.{EditCause}
use Rattle.dg_editor.specs.declared.cause.EditCause.TheVariants as edit
use Rattle.dg_editor.specs.Changes.{Changed, touched_first}
use Rattle.dg_editor.specs.Machine.{State, advanced, returned, undo_of, redo_of}
use Rattle.dg_editor.specs.Fits.{Lead, IsBelow, IsRight}
use Rattle.dg_editor.specs.Laws.{RedoGivesBack, UndoGivesBack}
use Rattle.dg_editor.specs.Seeing.{Editing, state_of}
use Rattle.dg_editor.proofs.Rights.{no-limit, limit, room-gives, state-is, advanced-right}

latest-first : (cs : List Changed) (c : Changed) → latest cs ≡ Some c → cs ≡ c ∷ drop 1 cs
latest-first [] c e = let no : ⊥ = cc in absurd no
latest-first (d ∷ cs) c e = let same : d ≡ c = cc in ap (λ (x : Changed). x ∷ cs) same

latest-one : (cs : List Changed) (c d : Changed) → latest cs ≡ Some c → latest cs ≡ Some d → c ≡ d
latest-one cs c d e f = cc

pub touched-first : (cs : List Changed) (c : Changed) → latest cs ≡ Some c → c.touched ≡ touched_first cs
touched-first [] c e = let no : ⊥ = cc in absurd no
touched-first (d ∷ cs) c e = let same : d ≡ c = cc in ap (λ (x : Changed). x.touched) (sym same)

module _ (t : Tables) (s : State) (nothing : EditCause) (graph : Changed → Graph) (history : History Changed) where
  pub return-nothing : (cs : List Changed) → latest cs ≡ None → returned t s nothing graph cs history ≡ Err nothing
  return-nothing [] e = refl
  return-nothing (c ∷ cs) e = let no : ⊥ = cc in absurd no

  returned-by : (b : Bool) → nat_eq (s.now.number + 1) REVISIONS ≡ b → (cs : List Changed) (c : Changed) → latest cs ≡ Some c →
      returned t s nothing graph cs history ≡ cond b (Err edit.LineFull) (Ok (advanced t s (graph c) s.now.next c.touched history))
  returned-by b full cs c e =
      ap (λ (l : List Changed). returned t s nothing graph l history) (latest-first cs c e)
      ∙ ap (λ x. cond x (Err edit.LineFull) (Ok (advanced t s (graph c) s.now.next c.touched history))) full

  pub return-full : (cs : List Changed) (c : Changed) → latest cs ≡ Some c → s.now.number + 1 ≡ REVISIONS → returned t s nothing graph cs history ≡ Err edit.LineFull
  return-full cs c e full = returned-by true (limit s.now.number full) cs c e

  pub return-gives : (cs : List Changed) (c : Changed) → latest cs ≡ Some c → s.now.number + 1 < REVISIONS →
      returned t s nothing graph cs history ≡ Ok (advanced t s (graph c) s.now.next c.touched history)
  return-gives cs c e room = returned-by false (no-limit s.now.number room) cs c e

  -- a return that is accepted has the graph of the latest change and the next id
  return-to : (c : Changed) (cs : List Changed) (next : State) → returned t s nothing graph (c ∷ cs) history ≡ Ok next → (next.now.graph ≡ graph c) × (next.now.next ≡ s.now.next)
  return-to c cs next e =
      let x : State = advanced t s (graph c) s.now.next c.touched history in
      let same : x ≡ next = room-gives (nat_eq (s.now.number + 1) REVISIONS) x next e in
      (ap (λ (y : State). y.now.graph) (sym same), ap (λ (y : State). y.now.next) (sym same))

-- after an undo
pub record AfterUndo (t : Tables) (s new : State) : Type 0 where
  pub gives : undo_of t s ≡ Ok new
  pub right : IsRight t new
  pub back : RedoGivesBack t new s.now
  pub near : (c : Changed) → latest s.history.undo ≡ Some c → c.after ≡ s.now.graph

undone-right : (t : Tables) (s : State) → IsRight t s → (c : Changed) → latest s.history.undo ≡ Some c → IsSound t c.before → s.now.number + 1 < REVISIONS →
    AfterUndo t s (advanced t s c.before s.now.next c.touched (undone s.history))
undone-right t s r c e sound room =
    let us : List Changed = drop 1 s.history.undo in
    let is : s.history.undo ≡ c ∷ us = latest-first s.history.undo c e in
    let moved : undone s.history ≡ record { undo = us; redo = c ∷ s.history.redo } = ap (λ xs. undone_from xs s.history.redo) is in
    let to : Lead (λ d. d.after) (λ d. d.before) s.now.graph (c ∷ us) = subst (Lead (λ d. d.after) (λ d. d.before) s.now.graph) is r.to in
    let below : All (IsBelow s.now.next) (c ∷ us) = subst (All (IsBelow s.now.next)) is r.undo_below in
    let both : IsBelow s.now.next c = All-head (IsBelow s.now.next) c us below in
    let next : State = advanced t s c.before s.now.next c.touched (record { undo = us; redo = c ∷ s.history.redo }) in
    subst (λ (h : History Changed). AfterUndo t s (advanced t s c.before s.now.next c.touched h)) (sym moved)
    (record {
      gives = return-gives t s edit.NothingToUndo (λ d. d.before) (undone s.history) s.history.undo c e room
          ∙ ap (λ (h : History Changed). Ok (advanced t s c.before s.now.next c.touched h)) moved;
      right = advanced-right t s r c.before s.now.next c.touched (record { undo = us; redo = c ∷ s.history.redo }) sound r.some both.0 to.1
          (refl, subst (λ (g : Graph). Lead (λ d. d.before) (λ d. d.after) g s.history.redo) (sym to.0) r.from)
          (All-tail (IsBelow s.now.next) c us below) (All-cons (IsBelow s.now.next) c s.history.redo both r.redo_below);
      back = λ again e. let is_to = return-to t next edit.NothingToRedo (λ d. d.after) (redone next.history) c s.history.redo again e in (is_to.0 ∙ to.0, is_to.1);
      near = λ d f. let same : c ≡ d = latest-one s.history.undo c d e f in ap (λ (x : Changed). x.after) (sym same) ∙ to.0;
    })

pub undo-done : {N M : Type 0} (t : Tables) (old new : Editing N M) → IsRight t (state_of old) → old.here.revision.number + 1 < REVISIONS →
    (c : Changed) → latest old.history.undo ≡ Some c → IsSound t c.before → (g : Graph) → g ≡ c.before → (es : List Endpoint) → es ≡ c.touched →
    new.here.revision ≡ followed t old.here.revision g old.here.revision.next es → new.passed ≡ old.here ∷ old.passed → new.history ≡ undone old.history →
    AfterUndo t (state_of old) (state_of new)
undo-done t old new r room c e sound g e_g es e_es now passed history =
    let s : State = state_of old in
    let is : state_of new ≡ advanced t s c.before s.now.next c.touched (undone s.history) =
    state-is t old new g old.here.revision.next es (undone s.history) now passed history
    ∙ (λ i. advanced t s (e_g i) s.now.next (e_es i) (undone s.history))
    in
    subst (AfterUndo t s) (sym is) (undone-right t s r c e sound room)

-- after a redo
pub record AfterRedo (t : Tables) (s new : State) : Type 0 where
  pub gives : redo_of t s ≡ Ok new
  pub right : IsRight t new
  pub back : UndoGivesBack t new s.now
  pub near : (c : Changed) → latest s.history.redo ≡ Some c → c.before ≡ s.now.graph

redone-right : (t : Tables) (s : State) → IsRight t s → (c : Changed) → latest s.history.redo ≡ Some c → IsSound t c.after → s.now.number + 1 < REVISIONS →
    AfterRedo t s (advanced t s c.after s.now.next c.touched (redone s.history))
redone-right t s r c e sound room =
    let rs : List Changed = drop 1 s.history.redo in
    let is : s.history.redo ≡ c ∷ rs = latest-first s.history.redo c e in
    let moved : redone s.history ≡ record { undo = c ∷ s.history.undo; redo = rs } = ap (redone_from s.history.undo) is in
    let from : Lead (λ d. d.before) (λ d. d.after) s.now.graph (c ∷ rs) = subst (Lead (λ d. d.before) (λ d. d.after) s.now.graph) is r.from in
    let below : All (IsBelow s.now.next) (c ∷ rs) = subst (All (IsBelow s.now.next)) is r.redo_below in
    let both : IsBelow s.now.next c = All-head (IsBelow s.now.next) c rs below in
    let next : State = advanced t s c.after s.now.next c.touched (record { undo = c ∷ s.history.undo; redo = rs }) in
    subst (λ (h : History Changed). AfterRedo t s (advanced t s c.after s.now.next c.touched h)) (sym moved)
    (record {
      gives = return-gives t s edit.NothingToRedo (λ d. d.after) (redone s.history) s.history.redo c e room
          ∙ ap (λ (h : History Changed). Ok (advanced t s c.after s.now.next c.touched h)) moved;
      right = advanced-right t s r c.after s.now.next c.touched (record { undo = c ∷ s.history.undo; redo = rs }) sound r.some both.1
          (refl, subst (λ (g : Graph). Lead (λ d. d.after) (λ d. d.before) g s.history.undo) (sym from.0) r.to) from.1
          (All-cons (IsBelow s.now.next) c s.history.undo both r.undo_below) (All-tail (IsBelow s.now.next) c rs below);
      back = λ again e. let is_to = return-to t next edit.NothingToUndo (λ d. d.before) (undone next.history) c s.history.undo again e in (is_to.0 ∙ from.0, is_to.1);
      near = λ d f. let same : c ≡ d = latest-one s.history.redo c d e f in ap (λ (x : Changed). x.before) (sym same) ∙ from.0;
    })

pub redo-done : {N M : Type 0} (t : Tables) (old new : Editing N M) → IsRight t (state_of old) → old.here.revision.number + 1 < REVISIONS →
    (c : Changed) → latest old.history.redo ≡ Some c → IsSound t c.after → (g : Graph) → g ≡ c.after → (es : List Endpoint) → es ≡ c.touched →
    new.here.revision ≡ followed t old.here.revision g old.here.revision.next es → new.passed ≡ old.here ∷ old.passed → new.history ≡ redone old.history →
    AfterRedo t (state_of old) (state_of new)
redo-done t old new r room c e sound g e_g es e_es now passed history =
    let s : State = state_of old in
    let is : state_of new ≡ advanced t s c.after s.now.next c.touched (redone s.history) =
    state-is t old new g old.here.revision.next es (redone s.history) now passed history
    ∙ (λ i. advanced t s (e_g i) s.now.next (e_es i) (redone s.history))
    in
    subst (AfterRedo t s) (sym is) (redone-right t s r c e sound room)
