-- What each event of a world leaves of what it shows, and that the work it does is that of a session.
use Rattle.std.proofs.Common.{◌≡◌, ℕ, ◌==◌, Bool, true, false, cond, List, [], ◌∷◌, ◌++◌, Some, None, Result, Ok, Err, IfOk, OnOk, length, set, refl, sym, ap, ◌∙◌, subst, arith}
use Rattle.std.specs.Option.{option_map}
use Rattle.std.proofs.lemmas.Bool.Decides.{nat_tests}
use Rattle.dg_base.specs.declared.ids.NodeId.{NodeId}
use Rattle.dg_base.specs.Tables.{Tables}
use Rattle.dg_line.specs.Revisions.{Seen}
use Rattle.dg_line.specs.Tickets.{Pin}
use Rattle.dg_editor.specs.declared.cause.EditCause.{EditCause}
use Rattle.dg_editor.specs.Machine.{State as Editor}
use Rattle.dg_editor.specs.Seeing.{Editing, IsUnchanged, state_of as editor_of}
use Rattle.dg_world.specs.declared.event.Outcome.{Outcome}
use Rattle.dg_world.specs.Worlds.{Worlded, pin_at}
use Rattle.dg_world.specs.Steps.{IsDropped, IsEdited, IsPinned, IsSame}
use Rattle.dg_asks.specs.Told.{as_seen}
use Rattle.dg_play.specs.Sessions.{IsMoved, live_with, live_without, with_live, without_live}
use Rattle.dg_play.specs.Work.{Work}
use Rattle.dg_alone.specs.Outcomes.{change_outcome}
use Rattle.dg_alone.specs.Works.{HasDone, IsWorked, SameLive, live_in, revision_in, view_of, work_in}
use Rattle.dg_alone.proofs.Pins.{at-past, at-push, at-push-other, at-set, at-set-other}

equal-from : (a b : ℕ) → (a == b) ≡ true → a ≡ b
equal-from a b h = grind (arith, nat_tests)

other-from : (a b : ℕ) → (a == b) ≡ false → a ≡ b → ⊥
other-from a b h e = grind (arith, nat_tests)

module _ {N M : Type 0} where
  pub view-same : (w v : Worlded N M) → editor_of v.editor ≡ editor_of w.editor → SameLive w.pins v.pins → view_of v ≡ view_of w
  view-same w v editor same = λ i. record { editor = editor i; live = λ n. option_map revision_in (same n i) }

  same-editor : (before now : Editing N M) → IsUnchanged before now → editor_of now ≡ editor_of before
  same-editor before now u = λ i. editor_of (record { line = now.line; here = u.here i; passed = u.passed i; history = u.history i })

  view-refused : (w v : Worlded N M) → IsSame w v → view_of v ≡ view_of w
  view-refused w v same = view-same w v (same-editor w.editor v.editor same.editor) (λ n i. pin_at (same.pins i) n)

  -- ---- an edit, an undo and a redo

  pub edited-moved : (t : Tables) (w v : Worlded N M) (r : Result Editor EditCause) (made : List NodeId) (x : Result (List NodeId) EditCause) (o : Outcome) → IsEdited t as_seen w v r made o →
      o ≡ change_outcome x → IsMoved r (view_of w) (view_of v) x
  edited-moved t w v r made x o h is = by_case x (subst (IsEdited t as_seen w v r made) is h)
    where
      by_case : (x : Result (List NodeId) EditCause) → IsEdited t as_seen w v r made (change_outcome x) → IsMoved r (view_of w) (view_of v) x
      by_case (Ok ns) e = (e.0, λ i. live_in (e.2.pins i))
      by_case (Err c) e = (e.0, view-refused w v e.1)

  pub edited-made : (t : Tables) (w v : Worlded N M) (r : Result Editor EditCause) (made : List NodeId) (x : Result (List NodeId) EditCause) (o : Outcome) → IsEdited t as_seen w v r made o →
      o ≡ change_outcome x → v.made ≡ w.made
  edited-made t w v r made x o h is = by_case x (subst (IsEdited t as_seen w v r made) is h)
    where
      by_case : (x : Result (List NodeId) EditCause) → IsEdited t as_seen w v r made (change_outcome x) → v.made ≡ w.made
      by_case (Ok ns) e = e.2.made
      by_case (Err c) e = e.1.made

  -- ---- pins

  pub free-number : (w : Worlded N M) (n : ℕ) → n ≡ length w.pins → live_in w.pins n ≡ None
  free-number w n number = ap (option_map revision_in) (ap (pin_at w.pins) number ∙ at-past w.pins)

  pinned-at : (w v : Worlded N M) (n m : ℕ) → IsPinned w v n → live_in v.pins m ≡ live_with (view_of w) n m
  pinned-at w v n m h = by_case (m == n) refl
    where
      by_case : (b : Bool) → (m == n) ≡ b → live_in v.pins m ≡ cond b (Some w.editor.here.revision) (live_in w.pins m)
      by_case true is =
          ap (λ l. live_in l m) h.pins ∙ ap (live_in (w.pins ++ Some w.editor.here ∷ [])) (equal-from m n is ∙ h.number)
          ∙ ap (option_map revision_in) (at-push w.pins (Some w.editor.here))
      by_case false is =
          ap (λ l. live_in l m) h.pins
          ∙ ap (option_map revision_in) (at-push-other w.pins (Some w.editor.here) m (λ e. other-from m n is (e ∙ sym h.number)))

  pub view-pinned : (w v : Worlded N M) (n : ℕ) → IsPinned w v n → view_of v ≡ with_live (view_of w) n
  view-pinned w v n h = λ i. record { editor = editor_of (h.editor i); live = λ m. pinned-at w v n m h i }

  dropped-at : (w v : Worlded N M) (n m : ℕ) → IsDropped w v n → live_in v.pins m ≡ live_without (view_of w) n m
  dropped-at w v n m h = by_case (m == n) refl
    where
      by_case : (b : Bool) → (m == n) ≡ b → live_in v.pins m ≡ cond b None (live_in w.pins m)
      by_case true is =
          ap (λ l. live_in l m) h.pins ∙ ap (live_in (set w.pins n None)) (equal-from m n is)
          ∙ ap (option_map revision_in) (at-set w.pins n)
      by_case false is =
          ap (λ l. live_in l m) h.pins ∙ ap (option_map revision_in) (at-set-other w.pins n m (other-from m n is))

  pub view-dropped : (w v : Worlded N M) (n : ℕ) → IsDropped w v n → view_of v ≡ without_live (view_of w) n
  view-dropped w v n h = λ i. record { editor = editor_of (h.editor i); live = λ m. dropped-at w v n m h i }

  -- ---- the work

  -- a world's work is that of its session
  pub leaves : (w v : Worlded N M) (after : ℕ → Work → Work) → IsWorked w v (after w.desk.capacity (work_in w)) →
      (first : Seen) (capacity : ℕ) (done : Work) → HasDone w first capacity done → HasDone v first capacity (after capacity done)
  leaves w v after worked first capacity done h = record {
    work = worked.work ∙ (λ i. after (h.capacity_is i) (h.work i));
    opened = ap (λ (p : Pin Seen M). p.revision) worked.opened ∙ h.opened;
    capacity_is = worked.capacity ∙ h.capacity_is;
  }

-- ---- results

-- what follows where a call is answered
pub on-answer : {X E : Type 0} (r : Result X E) (P : X → Type 0) (Q : Type 0) → IfOk r P → ((x : X) → P x → Q) → OnOk r Q
on-answer (Ok x) P Q h f = f x h
on-answer (Err e) P Q h f = tt

pub if-answer : {X E : Type 0} (r : Result X E) (P Q : X → Type 0) → IfOk r P → ((x : X) → P x → Q x) → IfOk r Q
if-answer (Ok x) P Q h f = f x h
if-answer (Err e) P Q h f = tt
