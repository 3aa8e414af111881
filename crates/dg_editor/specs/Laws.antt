-- Undo and redo take each other back.
use Rattle.std.specs.Prelude.{◌≡◌, Ok}
use Rattle.dg_base.specs.Tables.{Tables}
use Rattle.dg_line.specs.Revisions.{Seen}
use Rattle.dg_editor.specs.Machine.{State, undo_of, redo_of}
use Rattle.dg_editor.specs.Fits.{IsRight}

-- a redo that is accepted gives this revision's graph and next id
abbrev pub RedoGivesBack : Tables → State → Seen → Type 0
RedoGivesBack t s r = (redone : State) → redo_of t s ≡ Ok redone → (redone.now.graph ≡ r.graph) × (redone.now.next ≡ r.next)

abbrev pub UndoGivesBack : Tables → State → Seen → Type 0
UndoGivesBack t s r = (undone : State) → undo_of t s ≡ Ok undone → (undone.now.graph ≡ r.graph) × (undone.now.next ≡ r.next)
