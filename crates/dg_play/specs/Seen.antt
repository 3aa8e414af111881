-- The records of the code as those of the play. They are seen by what a session shows, and by what was asked for an
-- answer.
use Rattle.std.specs.Prelude.{ℕ, List, [], ◌∷◌, Option, Some, None, bytes_eq, cond, filter_map}
use Rattle.std.specs.Option.{option_map}
use Rattle.dg_asks.specs.Asks.{Ask}
use Rattle.dg_base.specs.Graph.{Graph}
use Rattle.dg_line.specs.Revisions.{Seen}
use Rattle.dg_editor.specs.Machine.{State as Editor}
use Rattle.dg_play.specs.declared.begin.Begin.{Begin}
use Rattle.dg_play.specs.declared.state.State.{State as CodeState}
use Rattle.dg_play.specs.declared.pins.Pin.{Pin as CodePin}
use Rattle.dg_play.specs.declared.reply.Reply.{Reply as CodeReply}
use Rattle.dg_play.specs.declared.reply.Reply.TheVariants as reply
use Rattle.dg_play.specs.declared.reply.Line.{Line as CodeLine}
use Rattle.dg_play.specs.Pins.{Pinned}
use Rattle.dg_play.specs.Play.{State, Reply, Done, Empty, LineFull, NothingToUndo, NothingToRedo, NoName, NoLabel, Misses, Refused, PinUsed, PinsFull, PinnedAt, NoPin, Answers, Builds, Line}
use Rattle.dg_play.specs.Sessions.{SessionView}

-- ---- states

abbrev pub pinned_at : List ℕ → Seen → Pinned
pinned_at name r = record { name = name; revision = r }

abbrev pub pin_of : (ℕ → Option Seen) → CodePin → Option Pinned
pin_of live p = option_map (pinned_at p.name) (live p.number)

-- the pins that are live, in order
abbrev pub pins_of : (ℕ → Option Seen) → List CodePin → List Pinned
pins_of live ps = filter_map (pin_of live) ps

abbrev pub state_by : {P : Type 0} → (P → SessionView) → CodeState P → State
state_by shows s = record { editor = (shows s.session).editor; pins = pins_of (shows s.session).live s.pins.items; bound = s.bound; names = s.names }

-- the number of the pin with a name
abbrev pub number_named : List CodePin → List ℕ → Option ℕ
number_named [] name = None
number_named (p ∷ ps) name = cond (bytes_eq p.name name) (Some p.number) (number_named ps name)

abbrev pub graph_by : {X : Type 0} → (X → Editor) → X → Graph
graph_by editor x = (editor x).now.graph

-- the state before the first command: no pin is live
abbrev pub begun_by : {X : Type 0} → (X → Editor) → Begin X → State
begun_by editor b = record { editor = editor b.game; pins = []; bound = b.bound; names = b.names }

-- ---- what commands print

abbrev pub reply_by : {A : Type 0} → (A → Ask) → CodeReply A → Reply
reply_by asked reply.Done = Done
reply_by asked reply.Empty = Empty
reply_by asked reply.LineFull = LineFull
reply_by asked reply.NothingToUndo = NothingToUndo
reply_by asked reply.NothingToRedo = NothingToRedo
reply_by asked reply.NoName = NoName
reply_by asked reply.NoLabel = NoLabel
reply_by asked (reply.Misses step missing) = Misses step missing
reply_by asked (reply.Refused step code) = Refused step code
reply_by asked reply.PinUsed = PinUsed
reply_by asked reply.PinsFull = PinsFull
reply_by asked (reply.PinnedAt number) = PinnedAt number
reply_by asked reply.NoPin = NoPin
reply_by asked (reply.Answers a) = Answers (asked a)
reply_by asked (reply.Builds a) = Builds (asked a)

abbrev pub line_by : {A : Type 0} → (A → Ask) → CodeLine A → Line
line_by asked l = record { number = l.number; reply = reply_by asked l.reply }

-- an answer is seen as what was asked
abbrev pub itself : Ask → Ask
itself a = a

abbrev pub reply_of : CodeReply Ask → Reply
reply_of r = reply_by itself r

abbrev pub line_of : CodeLine Ask → Line
line_of l = line_by itself l
