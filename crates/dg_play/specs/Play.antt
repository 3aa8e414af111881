-- The play of a script: its commands one after another, each with what it prints.
use Rattle.std.specs.Prelude.{ℕ, List, [], ◌∷◌, ◌++◌, Option, Some, None, Result, Ok, Err, cond, nat_lt, length}
use Rattle.dg_base.specs.declared.ids.NodeId.{NodeId}
use Rattle.dg_base.specs.declared.ids.Label.{Label}
use Rattle.dg_base.specs.declared.step.Step.{Step}
use Rattle.dg_base.specs.declared.step.TxCode.{TxCode}
use Rattle.dg_base.specs.Tables.{Tables}
use Rattle.dg_base.specs.Graph.{Graph}
use Rattle.dg_base.specs.Transact.{applied}
use Rattle.dg_script.specs.declared.command.Command.{Command}
use Rattle.dg_script.specs.declared.command.EpWords.{EpWords}
use Rattle.dg_script.specs.declared.command.StepWords.{StepWords}
use Rattle.dg_script.specs.declared.command.Act.{Act}
use Rattle.dg_script.specs.declared.command.Act.TheVariants as act
use Rattle.dg_bind.specs.declared.refusal.Missing.{Missing}
use Rattle.dg_bind.specs.Bindings.{Binding, bind}
use Rattle.dg_bind.specs.Steps.{Taken, Missed, steps_bound}
use Rattle.dg_bind.specs.Question.{node_of_question, label_of_question}
use Rattle.dg_labels.specs.declared.labels.TheConstants as labels
use Rattle.dg_line.specs.Revisions.{Seen}
use Rattle.dg_editor.specs.declared.cause.EditCause.{EditCause}
use Rattle.dg_editor.specs.declared.cause.EditCause.TheVariants as edit
use Rattle.dg_editor.specs.Machine.{State as Editor, edited, made_by, undo_of, redo_of}
use Rattle.dg_asks.specs.Asks.{Ask}
use Rattle.dg_play.specs.Pins.{Pinned, pin_named, without_pin, max_pins}

-- what a script has at a moment: the editor, the live pins, the names of nodes, and the interned names
pub record State : Type 0 where
  pub editor : Editor
  pub pins : List Pinned
  pub bound : List Binding
  pub names : List (List ℕ)

abbrev pub graph_now : State → Graph
graph_now s = s.editor.now.graph

-- what a command prints: a text that is known at once, the answer that is asked for, or what the answer that is built
-- comes to
pub data Reply : Type 0 where
  Done : Reply
  Empty : Reply
  LineFull : Reply
  NothingToUndo : Reply
  NothingToRedo : Reply
  NoName : Reply
  NoLabel : Reply
  Misses : ℕ → Missing → Reply
  Refused : ℕ → TxCode → Reply
  PinUsed : Reply
  PinsFull : Reply
  PinnedAt : ℕ → Reply
  NoPin : Reply
  Answers : Ask → Reply
  Builds : Ask → Reply

-- what a command leaves, and what it prints
pub record Turn : Type 0 where
  pub state : State
  pub reply : Reply

abbrev pub unchanged : State → Reply → Turn
unchanged s reply = record { state = s; reply = reply }

-- ---- edits, undo and redo

abbrev pub with_editor : State → Editor → State
with_editor s e = record { editor = e; pins = s.pins; bound = s.bound; names = s.names }

abbrev pub with_bound : State → List Binding → State
with_bound s bound = record { editor = s.editor; pins = s.pins; bound = bound; names = s.names }

-- what is printed of a call that the editor refuses
abbrev pub refusal_reply : EditCause → Reply
refusal_reply edit.Empty = Empty
refusal_reply edit.LineFull = LineFull
refusal_reply edit.NothingToUndo = NothingToUndo
refusal_reply edit.NothingToRedo = NothingToRedo
refusal_reply (edit.Refused r) = Refused r.step r.code

-- the editor's next state, or its refusal
abbrev pub moved : State → Result Editor EditCause → Turn
moved s (Ok e) = record { state = with_editor s e; reply = Done }
moved s (Err c) = unchanged s (refusal_reply c)

-- the names of the nodes that were made stand for these nodes
abbrev pub bind_made : List Binding → List (List ℕ) → List NodeId → List Binding
bind_made bound [] nodes = bound
bind_made bound (name ∷ names) [] = bound
bind_made bound (name ∷ names) (n ∷ ns) = bind_made (bind bound name n) names ns

-- an edit that is accepted also binds the names of its new nodes
abbrev pub taken_over : State → List (List ℕ) → List NodeId → Result Editor EditCause → Turn
taken_over s new_names made (Ok e) = record { state = with_bound (with_editor s e) (bind_made s.bound new_names made); reply = Done }
taken_over s new_names made (Err c) = unchanged s (refusal_reply c)

abbrev pub edits : Tables → State → List (List ℕ) → List Step → Turn
edits t s new_names ss = taken_over s new_names (made_by (applied t (graph_now s) s.editor.now.next ss)) (edited t s.editor ss)

-- the names that a transaction interned stay, whether it is refused or not
abbrev pub with_names : State → List (List ℕ) → State
with_names s names = record { editor = s.editor; pins = s.pins; bound = s.bound; names = names }

abbrev pub transacted : Tables → State → Result Taken Missed → Turn
transacted t s (Ok b) = edits t (with_names s b.names) b.new_names b.steps
transacted t s (Err m) = unchanged (with_names s m.names) (Misses m.step m.missing)

-- a transaction of these steps. Names and labels are looked up before the first step is done
abbrev pub transaction : Tables → State → List StepWords → Turn
transaction t s ws = transacted t s (steps_bound s.bound s.names ws)

-- ---- pins

abbrev pub with_pins : State → List Pinned → State
with_pins s pins = record { editor = s.editor; pins = pins; bound = s.bound; names = s.names }

-- one more pin, at the current revision
abbrev pub with_pin : State → List ℕ → Turn
with_pin s name = record {
  state = with_pins s (s.pins ++ record { name = name; revision = s.editor.now } ∷ []);
  reply = PinnedAt s.editor.now.number;
}

abbrev pub pinned : State → List ℕ → Option Seen → Turn
pinned s name (Some r) = unchanged s PinUsed
pinned s name None = cond (nat_lt (length s.pins) max_pins) (with_pin s name) (unchanged s PinsFull)

-- a pin fewer. Its name can be used again
abbrev pub dropped : State → List ℕ → Option Seen → Turn
dropped s name (Some r) = record { state = with_pins s (without_pin name s.pins); reply = Done }
dropped s name None = unchanged s NoPin

-- ---- questions, which change nothing

-- the revision that is asked: the current one, or that of a live pin
abbrev pub revision_asked : State → Option (List ℕ) → Option Seen
revision_asked s None = Some s.editor.now
revision_asked s (Some name) = pin_named s.pins name

abbrev pub asked : Seen → Option NodeId → Option Label → Reply
asked r None l = NoName
asked r (Some n) None = NoLabel
asked r (Some n) (Some l) = Answers (record { revision = r; at = record { node = n; label = l } })

-- nodes and labels go by today's names, and joined names by the overrides of the revision that is asked
abbrev pub ask_at : State → EpWords → Option Seen → Reply
ask_at s at None = NoPin
ask_at s at (Some r) = asked r (node_of_question r.graph s.bound at.node) (label_of_question s.names at)

abbrev pub ask : State → Option (List ℕ) → EpWords → Reply
ask s pin at = ask_at s at (revision_asked s pin)

-- the build output of a node, at the current revision
abbrev pub built : Seen → Option NodeId → Reply
built r None = NoName
built r (Some n) = Builds (record { revision = r; at = record { node = n; label = labels.BUILD } })

-- one more name for a node
abbrev pub alias : State → List ℕ → Option NodeId → Turn
alias s name None = unchanged s NoName
alias s name (Some n) = record { state = with_bound s (bind s.bound name n); reply = Done }

-- ---- turns

-- the turn of a command
abbrev pub turn_of : Tables → State → Act → Turn
turn_of t s (act.Step w) = transaction t s (w ∷ [])
turn_of t s (act.Block ws) = transaction t s ws
turn_of t s act.Undo = moved s (undo_of t s.editor)
turn_of t s act.Redo = moved s (redo_of t s.editor)
turn_of t s (act.Pin name) = pinned s name (pin_named s.pins name)
turn_of t s (act.Drop name) = dropped s name (pin_named s.pins name)
turn_of t s (act.Ask pin at) = unchanged s (ask s pin at)
turn_of t s (act.Alias name node) = alias s name (node_of_question (graph_now s) s.bound node)
turn_of t s (act.Build node) = unchanged s (built s.editor.now (node_of_question (graph_now s) s.bound node))
turn_of t s (act.Evict most) = unchanged s Done

-- a command's line in the script, with what the command prints
pub record Line : Type 0 where
  pub number : ℕ
  pub reply : Reply

-- a script that was played: its lines, and the last state
pub record Played : Type 0 where
  pub lines : List Line
  pub state : State

-- a line before those of the commands that follow
abbrev pub before : Line → Played → Played
before line rest = record { lines = line ∷ rest.lines; state = rest.state }

abbrev pub continued : ℕ → Turn → (State → Played) → Played
continued number turn rest = before (record { number = number; reply = turn.reply }) (rest turn.state)

abbrev pub played : Tables → List Command → State → Played
played t [] s = record { lines = []; state = s }
played t (c ∷ cs) s = continued c.line (turn_of t s c.act) (played t cs)
