-- What a play asks for and evicts.
use Rattle.std.proofs.Common.{◌≡◌, ℕ, ◌+◌, Bool, true, false, cond, List, [], ◌∷◌, ◌++◌, Option, Some, None, Result, Ok, Err, count_by, length, nat_lt, refl, sym, ap, ◌∙◌, append_assoc, arith}
use Rattle.std.proofs.lemmas.List.{append-nil}
use Rattle.std.proofs.lemmas.List.Sums.{sum_by-cons}
use Rattle.dg_base.specs.declared.ids.NodeId.{NodeId}
use Rattle.dg_base.specs.Tables.{Tables}
use Rattle.dg_base.specs.Transact.{applied}
use Rattle.dg_bind.specs.Steps.{Taken, Missed, steps_bound}
use Rattle.dg_bind.specs.Question.{node_of_question}
use Rattle.dg_line.specs.Revisions.{Seen}
use Rattle.dg_editor.specs.declared.cause.EditCause.{EditCause}
use Rattle.dg_editor.specs.declared.cause.EditCause.TheVariants as edit
use Rattle.dg_editor.specs.Machine.{State as Editor, edited, made_by, undo_of, redo_of}
use Rattle.dg_script.specs.declared.command.Command.{Command}
use Rattle.dg_script.specs.declared.command.Act.{Act as Done}
use Rattle.dg_script.specs.declared.command.Act.TheVariants as act
use Rattle.dg_asks.specs.Asks.{Ask}
use Rattle.dg_play.specs.Pins.{pin_named, max_pins}
use Rattle.dg_play.specs.Play.{State, Reply, Empty, LineFull, NothingToUndo, NothingToRedo, NoName, NoLabel, Misses, Refused, PinUsed, PinsFull, PinnedAt, NoPin, Answers, Builds, built, alias, ask, dropped, graph_now, moved, pinned, played, refusal_reply, taken_over, transacted, turn_of, unchanged, with_names, with_pin}
use Rattle.dg_play.specs.Play.{Done as Said}
use Rattle.dg_play.specs.Work.{Work, after_reply, after_turn, worked_on}
use Rattle.dg_play.specs.Desk.{answer_in, answers_in, is_evict}

-- ---- commands that ask nothing

refusal-quiet : (c : EditCause) → answer_in (refusal_reply c) ≡ []
refusal-quiet edit.Empty = refl
refusal-quiet edit.LineFull = refl
refusal-quiet edit.NothingToUndo = refl
refusal-quiet edit.NothingToRedo = refl
refusal-quiet (edit.Refused r) = refl

moved-quiet : (s : State) (r : Result Editor EditCause) → answer_in (moved s r).reply ≡ []
moved-quiet s (Ok e) = refl
moved-quiet s (Err c) = refusal-quiet c

taken-quiet : (s : State) (names : List (List ℕ)) (made : List NodeId) (r : Result Editor EditCause) → answer_in (taken_over s names made r).reply ≡ []
taken-quiet s names made (Ok e) = refl
taken-quiet s names made (Err c) = refusal-quiet c

transacted-quiet : (t : Tables) (s : State) (r : Result Taken Missed) → answer_in (transacted t s r).reply ≡ []
transacted-quiet t s (Ok b) =
    let n = with_names s b.names in
    taken-quiet n b.new_names (made_by (applied t (graph_now n) n.editor.now.next b.steps)) (edited t n.editor b.steps)
transacted-quiet t s (Err m) = refl

pinned-quiet : (s : State) (name : List ℕ) (o : Option Seen) → answer_in (pinned s name o).reply ≡ []
pinned-quiet s name (Some r) = refl
pinned-quiet s name None = by_room (nat_lt (length s.pins) max_pins)
  where
    by_room : (b : Bool) → answer_in (cond b (with_pin s name) (unchanged s PinsFull)).reply ≡ []
    by_room true = refl
    by_room false = refl

dropped-quiet : (s : State) (name : List ℕ) (o : Option Seen) → answer_in (dropped s name o).reply ≡ []
dropped-quiet s name (Some r) = refl
dropped-quiet s name None = refl

alias-quiet : (s : State) (name : List ℕ) (o : Option NodeId) → answer_in (alias s name o).reply ≡ []
alias-quiet s name (Some n) = refl
alias-quiet s name None = refl

quiet : (asks : List Ask) (more : List Ask) → more ≡ [] → asks ≡ asks ++ more
quiet asks more none = sym (ap (λ (l : List Ask). asks ++ l) none ∙ append-nil asks)

module _ (t : Tables) (c : ℕ) where
  reply-asks : (now : Seen) (r : Reply) (w : Work) → (after_reply t c now r w).asks ≡ w.asks ++ answer_in r
  reply-asks now Said w = sym (append-nil w.asks)
  reply-asks now Empty w = sym (append-nil w.asks)
  reply-asks now LineFull w = sym (append-nil w.asks)
  reply-asks now NothingToUndo w = sym (append-nil w.asks)
  reply-asks now NothingToRedo w = sym (append-nil w.asks)
  reply-asks now NoName w = sym (append-nil w.asks)
  reply-asks now NoLabel w = sym (append-nil w.asks)
  reply-asks now (Misses n m) w = sym (append-nil w.asks)
  reply-asks now (Refused n m) w = sym (append-nil w.asks)
  reply-asks now PinUsed w = sym (append-nil w.asks)
  reply-asks now PinsFull w = sym (append-nil w.asks)
  reply-asks now (PinnedAt n) w = sym (append-nil w.asks)
  reply-asks now NoPin w = sym (append-nil w.asks)
  reply-asks now (Answers a) w = refl
  reply-asks now (Builds a) w = refl

  reply-evictions : (now : Seen) (r : Reply) (w : Work) → (after_reply t c now r w).evictions ≡ w.evictions
  reply-evictions now Said w = refl
  reply-evictions now Empty w = refl
  reply-evictions now LineFull w = refl
  reply-evictions now NothingToUndo w = refl
  reply-evictions now NothingToRedo w = refl
  reply-evictions now NoName w = refl
  reply-evictions now NoLabel w = refl
  reply-evictions now (Misses n m) w = refl
  reply-evictions now (Refused n m) w = refl
  reply-evictions now PinUsed w = refl
  reply-evictions now PinsFull w = refl
  reply-evictions now (PinnedAt n) w = refl
  reply-evictions now NoPin w = refl
  reply-evictions now (Answers a) w = refl
  reply-evictions now (Builds a) w = refl

  turn-asks : (now : Seen) (s : State) (x : Done) (w : Work) → (after_turn t c now x (turn_of t s x) w).asks ≡ w.asks ++ answer_in (turn_of t s x).reply
  turn-asks now s (act.Step words) w = quiet w.asks (answer_in (turn_of t s (act.Step words)).reply) (transacted-quiet t s (steps_bound s.bound s.names (words ∷ [])))
  turn-asks now s (act.Block words) w = quiet w.asks (answer_in (turn_of t s (act.Block words)).reply) (transacted-quiet t s (steps_bound s.bound s.names words))
  turn-asks now s act.Undo w = quiet w.asks (answer_in (turn_of t s act.Undo).reply) (moved-quiet s (undo_of t s.editor))
  turn-asks now s act.Redo w = quiet w.asks (answer_in (turn_of t s act.Redo).reply) (moved-quiet s (redo_of t s.editor))
  turn-asks now s (act.Pin name) w = quiet w.asks (answer_in (turn_of t s (act.Pin name)).reply) (pinned-quiet s name (pin_named s.pins name))
  turn-asks now s (act.Drop name) w = quiet w.asks (answer_in (turn_of t s (act.Drop name)).reply) (dropped-quiet s name (pin_named s.pins name))
  turn-asks now s (act.Ask pin at) w = reply-asks now (ask s pin at) w
  turn-asks now s (act.Alias name node) w = quiet w.asks (answer_in (turn_of t s (act.Alias name node)).reply) (alias-quiet s name (node_of_question (graph_now s) s.bound node))
  turn-asks now s (act.Build node) w = reply-asks now (built s.editor.now (node_of_question (graph_now s) s.bound node)) w
  turn-asks now s (act.Evict most) w = sym (append-nil w.asks)

  turn-evictions : (now : Seen) (s : State) (x : Done) (w : Work) → (after_turn t c now x (turn_of t s x) w).evictions ≡ w.evictions + cond (is_evict x) 1 0
  turn-evictions now s (act.Step words) w = omega arith
  turn-evictions now s (act.Block words) w = omega arith
  turn-evictions now s act.Undo w = omega arith
  turn-evictions now s act.Redo w = omega arith
  turn-evictions now s (act.Pin name) w = omega arith
  turn-evictions now s (act.Drop name) w = omega arith
  turn-evictions now s (act.Ask pin at) w = let e = reply-evictions now (ask s pin at) w in omega (arith, e)
  turn-evictions now s (act.Alias name node) w = omega arith
  turn-evictions now s (act.Build node) w = let e = reply-evictions now (built s.editor.now (node_of_question (graph_now s) s.bound node)) w in omega (arith, e)
  turn-evictions now s (act.Evict most) w = refl

  -- what is evaluated is what the lines answer
  pub worked-asks : (cs : List Command) (s : State) (w : Work) → (worked_on t c cs s w).asks ≡ w.asks ++ answers_in (played t cs s).lines
  worked-asks [] s w = sym (append-nil w.asks)
  worked-asks (x ∷ cs) s w =
      let turn = turn_of t s x.act in
      worked-asks cs turn.state (after_turn t c s.editor.now x.act turn w)
      ∙ ap (λ (l : List Ask). l ++ answers_in (played t cs turn.state).lines) (turn-asks s.editor.now s x.act w)
      ∙ append_assoc w.asks (answer_in turn.reply) (answers_in (played t cs turn.state).lines)

  pub worked-evictions : (cs : List Command) (s : State) (w : Work) → (worked_on t c cs s w).evictions ≡ w.evictions + count_by (λ (x : Command). is_evict x.act) cs
  worked-evictions [] s w = omega arith
  worked-evictions (x ∷ cs) s w =
      let turn = turn_of t s x.act in
      let rest = worked-evictions cs turn.state (after_turn t c s.editor.now x.act turn w) in
      let one = turn-evictions s.editor.now s x.act w in
      let split = sum_by-cons (λ (y : Command). cond (is_evict y.act) 1 0) x cs in
      omega (arith, rest, one, split)
