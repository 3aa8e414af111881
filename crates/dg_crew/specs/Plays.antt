-- The commands of a script, as they are played in the session that puts jobs.
use Rattle.std.specs.Prelude.{◌≡◌, ℕ, List, map}
use Rattle.dg_asks.specs.Asks.{Ask, asking_ask}
use Rattle.dg_asks.specs.declared.asking.Asking.{Asking}
use Rattle.dg_caller.specs.Calls.{CanFollow, HasDone, view_of}
use Rattle.dg_caller.specs.declared.caller.Calls.{Calls}
use Rattle.dg_editor.specs.Seeing.{Editing}
use Rattle.dg_kinds_coll.specs.Defold.{defold_tables}
use Rattle.dg_line.specs.Revisions.{Seen}
use Rattle.dg_line.specs.Tickets.{Pin}
use Rattle.dg_play.specs.Play.{played}
use Rattle.dg_play.specs.Seen.{line_of, state_by}
use Rattle.dg_play.specs.Sessions.{Leaves, SessionView}
use Rattle.dg_play.specs.Work.{Work, worked_on}
use Rattle.dg_play.specs.declared.reply.Line.{Line}
use Rattle.dg_play.specs.declared.state.State.{State}
use Rattle.dg_pool.specs.Tallies.{Tally}
use Rattle.dg_room.specs.Made.{Passed}
use Rattle.dg_script.specs.declared.command.Command.{Command}

-- a session over an editor
abbrev pub Session : (R P Q N M : Type 0) → Type 0
Session R P Q N M = Calls R P Q (Editing N M) (Pin Seen M) (Asking M Seen) Passed Tally

abbrev pub shows : {R P Q N M : Type 0} → Session R P Q N M → SessionView
shows c = view_of c.editor c.pins.items

abbrev pub is_ready : {R P Q N M : Type 0} → Session R P Q N M → Type 0
is_ready c = CanFollow c.pass c.editor.here.revision

abbrev pub has_done : {R P Q N M : Type 0} → Session R P Q N M → Seen → ℕ → Work → Type 0
has_done c first capacity w = HasDone (map asking_ask c.asked.items) c.pass c.editor.here.revision first w

-- the commands lead from a state to another one and print these lines, and what was done is what they do
pub record IsPlayOf {R P Q N M : Type 0} (commands : List Command) (before : State (Session R P Q N M)) (ls : List (Line Ask)) (after : State (Session R P Q N M)) : Type 0 where
  pub lines : played defold_tables commands (state_by shows before) ≡ record { lines = map line_of ls; state = state_by shows after }
  pub work : Leaves has_done before.session after.session (λ c w. worked_on defold_tables c commands (state_by shows before) w)
