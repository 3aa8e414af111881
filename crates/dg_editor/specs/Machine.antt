-- The editor: its revisions, and the changes that can be undone and done again. Each accepted call adds a
-- revision, in which the counter of what is dirty is one higher; none is ever taken back, and neither is an
-- id.
use Rattle.std.specs.Prelude.{ℕ, ◌+◌, List, [], ◌∷◌, Result, Ok, Err, cond, nat_eq, reverse}
use Rattle.dg_base.specs.declared.ids.Endpoint.{Endpoint}
use Rattle.dg_base.specs.declared.ids.NodeId.{NodeId}
use Rattle.dg_base.specs.declared.limits.TheConstants.{REVISIONS}
use Rattle.dg_base.specs.declared.step.Step.{Step}
use Rattle.dg_base.specs.declared.step.RefusedStep.{RefusedStep}
use Rattle.dg_base.specs.Tables.{Tables}
use Rattle.dg_base.specs.Graph.{Graph, empty}
use Rattle.dg_base.specs.Refusal.{and_then}
use Rattle.dg_base.specs.Transact.{Applied, applied}
use Rattle.dg_history.specs.History.{History, recorded, undone, redone}
use Rattle.dg_line.specs.Revisions.{Seen, first_revision, followed}
use Rattle.dg_editor.specs.Changes.{Changed}
use Rattle.dg_editor.specs.declared.cause.EditCause.{EditCause}
use Rattle.dg_editor.specs.declared.cause.EditCause.TheVariants as edit

-- the current revision, those before it, the latest first, and the changes
pub record State : Type 0 where
  pub now : Seen
  pub passed : List Seen
  pub history : History Changed

-- all revisions, in order
abbrev pub revisions : State → List Seen
revisions s = reverse (s.now ∷ s.passed)

-- opening does the first steps on an empty graph, whose first node gets the id 1. They can't be undone
abbrev pub begun : Applied → State
begun a = record { now = first_revision a.graph a.next; passed = []; history = record { undo = []; redo = [] } }

abbrev pub opened : Tables → List Step → Result State RefusedStep
opened t ss = and_then (applied t empty 1 ss) (λ a. Ok (begun a))

-- one revision more, with this graph and next id, where these endpoints were touched
abbrev pub advanced : Tables → State → Graph → ℕ → List Endpoint → History Changed → State
advanced t s g next touched history = record { now = followed t s.now g next touched; passed = s.now ∷ s.passed; history = history }

-- where no revision can follow, that is the refusal
abbrev pub if_room : State → Result State EditCause → Result State EditCause
if_room s r = cond (nat_eq (s.now.number + 1) REVISIONS) (Err edit.LineFull) r

-- ---- an edit

abbrev pub change_by : State → Applied → Changed
change_by s a = record { before = s.now.graph; after = a.graph; touched = a.touched }

-- a step that is refused refuses the edit
abbrev pub as_cause : Result Applied RefusedStep → Result Applied EditCause
as_cause (Ok a) = Ok a
as_cause (Err r) = Err (edit.Refused r)

abbrev pub edited_to : Tables → State → Applied → State
edited_to t s a = advanced t s a.graph a.next a.touched (recorded s.history (change_by s a))

abbrev pub edited_by : Tables → State → Result Applied RefusedStep → Result State EditCause
edited_by t s r = and_then (as_cause r) (λ a. Ok (edited_to t s a))

-- it is refused where there are no steps, then where no revision can follow, then where a step is refused
abbrev pub edited : Tables → State → List Step → Result State EditCause
edited t s [] = Err edit.Empty
edited t s (x ∷ xs) = if_room s (edited_by t s (applied t s.now.graph s.now.next (x ∷ xs)))

-- the nodes that its steps made
abbrev pub made_by : Result Applied RefusedStep → List NodeId
made_by (Ok a) = a.made
made_by (Err r) = []

-- and what they touched
abbrev pub touched_by : Result Applied RefusedStep → List Endpoint
touched_by (Ok a) = a.touched
touched_by (Err r) = []

-- ---- an undo and a redo: back to a graph that was kept. No step is done again, and no id is given anew

-- to the graph that the latest of these changes has, if there is one
abbrev pub returned : Tables → State → EditCause → (Changed → Graph) → List Changed → History Changed → Result State EditCause
returned t s nothing graph [] history = Err nothing
returned t s nothing graph (c ∷ cs) history = if_room s (Ok (advanced t s (graph c) s.now.next c.touched history))

abbrev pub undo_of : Tables → State → Result State EditCause
undo_of t s = returned t s edit.NothingToUndo (λ c. c.before) s.history.undo (undone s.history)

abbrev pub redo_of : Tables → State → Result State EditCause
redo_of t s = returned t s edit.NothingToRedo (λ c. c.after) s.history.redo (redone s.history)
