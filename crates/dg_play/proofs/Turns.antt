-- The play of commands, turn by turn.
use Rattle.std.proofs.Common.{◌≡◌, ℕ, suc, ◌+◌, ◌<◌, ◌≤◌, List, [], ◌∷◌, ◌++◌, length, drop, get_or, Result, Ok, Err, IfOk, OnOk, sym, ap, ◌∙◌, subst, append_assoc, arith}
use Rattle.std.proofs.Math.Seq.{drop-cons}
use Rattle.std.proofs.lemmas.List.{at_drop_all}
use Rattle.dg_base.specs.Tables.{Tables}
use Rattle.dg_line.specs.Revisions.{Seen}
use Rattle.dg_script.specs.declared.command.Command.{Command}
use Rattle.dg_play.specs.Play.{State, Reply, Turn, Line, Played, before, continued, turn_of, played}
use Rattle.dg_play.specs.Sessions.{Leaves, SessionView, now_in}
use Rattle.dg_play.specs.Work.{Work, after_turn, moved_on, worked_on}
use Rattle.dg_play.proofs.Works.{moves-same}

-- lines so far, and then those that are left
abbrev pub ahead : List Line → Played → Played
ahead ls p = record { lines = ls ++ p.lines; state = p.state }

ahead-push : (ls : List Line) (l : Line) (p : Played) → ahead (ls ++ l ∷ []) p ≡ ahead ls (before l p)
ahead-push ls l p = ap (λ (z : List Line). record { lines = z; state = p.state }) (append_assoc ls (l ∷ []) p.lines)

module _ (t : Tables) (cs : List Command) (i : ℕ) (c : Command) (is : c ≡ get_or cs i c) (lt : i < length cs) (s : State) where
  commands_left : drop i cs ≡ c ∷ drop (i + 1) cs
  commands_left =
      let next : i + 1 ≡ suc i = omega arith in
      drop-cons cs i c lt ∙ ap (λ (d : Command). d ∷ drop (suc i) cs) (sym is) ∙ ap (λ k. c ∷ drop k cs) (sym next)

  next_turn : played t (drop i cs) s ≡ continued c.line (turn_of t s c.act) (played t (drop (i + 1) cs))
  next_turn = ap (λ (ds : List Command). played t ds s) commands_left

  -- a turn adds its line
  pub turn_more : (ls : List Line) (now : State) (reply : Reply) → turn_of t s c.act ≡ record { state = now; reply = reply } →
      ahead (ls ++ record { number = c.line; reply = reply } ∷ []) (played t (drop (i + 1) cs) now) ≡ ahead ls (played t (drop i cs) s)
  turn_more ls now reply turn =
      ahead-push ls (record { number = c.line; reply = reply }) (played t (drop (i + 1) cs) now)
      ∙ ap (ahead ls) (sym (next_turn ∙ ap (λ (o : Turn). continued c.line o (played t (drop (i + 1) cs))) turn))

  -- and its work
  pub work_more : (k : ℕ) (w : Work) (now : State) (reply : Reply) → turn_of t s c.act ≡ record { state = now; reply = reply } →
      worked_on t k (drop (i + 1) cs) now (after_turn t k s.editor.now c.act (turn_of t s c.act) w) ≡ worked_on t k (drop i cs) s w
  work_more k w now reply turn =
      ap (λ (o : Turn). worked_on t k (drop (i + 1) cs) o.state (after_turn t k s.editor.now c.act (turn_of t s c.act) w)) (sym turn)
      ∙ sym (ap (λ (ds : List Command). worked_on t k ds s w) commands_left)

-- where no command is left, the work is done
pub work_end : (t : Tables) (k : ℕ) (cs : List Command) (i : ℕ) (s : State) (w : Work) → length cs ≤ i → worked_on t k (drop i cs) s w ≡ w
work_end t k cs i s w end = at_drop_all (λ (ds : List Command). worked_on t k ds s w) cs i end

-- and the play is at its end
pub play_end : (t : Tables) (cs : List Command) (i : ℕ) (s : State) (ls : List Line) (r : Played) → ahead ls (played t (drop i cs) s) ≡ r → length cs ≤ i → r.state ≡ s
play_end t cs i s ls r so_far end = ap (λ (p : Played). p.state) (sym so_far) ∙ at_drop_all (λ (ds : List Command). (played t ds s).state) cs i end

module _ {X : Type 0} (shows : X → SessionView) (has_done : X → Seen → ℕ → Work → Type 0) where
  -- a command that only names something leaves the session
  pub named-left : {A E : Type 0} (r : Result A E) (x y : X) (turn : Turn) (z : State) (f : A → Reply) → IfOk r (λ (a : A). turn ≡ record { state = z; reply = f a }) → OnOk r (y ≡ x) →
      z.editor.now ≡ now_in (shows y) → OnOk r (Leaves has_done x y (λ c w. moved_on (now_in (shows x)) turn.state.editor.now w))
  named-left (Ok a) x y turn z f is same now =
      let at : turn.state.editor.now ≡ now_in (shows x) = ap (λ (o : Turn). o.state.editor.now) is ∙ now ∙ ap (λ (v : X). now_in (shows v)) same in
      subst (λ (v : X). Leaves has_done x v (λ c w. moved_on (now_in (shows x)) turn.state.editor.now w)) (sym same)
      (subst (λ (n : Seen). Leaves has_done x x (λ c w. moved_on (now_in (shows x)) n w)) (sym at) (moves-same shows has_done x))
  named-left (Err e) x y turn z f is same now = tt

-- what is left of a play: the session has done the work so far, whatever it had done
abbrev pub LeavesSoFar : {X : Type 0} → (X → Seen → ℕ → Work → Type 0) → Tables → X → X → List Command → State → List Command → State → Type 0
LeavesSoFar has_done t first_session session all begin left now =
    (first : Seen) (c : ℕ) (w : Work) → has_done first_session first c w → (so_far : Work) × has_done session first c so_far × (worked_on t c left now so_far ≡ worked_on t c all begin w)

-- a turn adds its work
pub left_more : {X : Type 0} (has_done : X → Seen → ℕ → Work → Type 0) (t : Tables) (x y z : X) (cs : List Command) (i : ℕ) (c : Command) (begin s now : State) (reply : Reply) → c ≡ get_or cs i c → i < length cs →
    turn_of t s c.act ≡ record { state = now; reply = reply } → Leaves has_done y z (λ k w. after_turn t k s.editor.now c.act (turn_of t s c.act) w) →
    LeavesSoFar has_done t x y cs begin (drop i cs) s → LeavesSoFar has_done t x z cs begin (drop (i + 1) cs) now
left_more has_done t x y z cs i c begin s now reply is lt turn leaves old first k w done =
    let before = old first k w done in
    (after_turn t k s.editor.now c.act (turn_of t s c.act) before.0, leaves first k before.0 before.1, work_more t cs i c is lt s k before.0 now reply turn ∙ before.2)
