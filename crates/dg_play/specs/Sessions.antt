-- What commands are played in, as definitions see it: an editor, and the revisions that are held by number. Next to it
-- what each call leaves.
use Rattle.std.specs.Prelude.{◌≡◌, ℕ, ◌==◌, Option, Some, None, Result, Ok, Err, cond}
use Rattle.dg_base.specs.Graph.{Graph}
use Rattle.dg_line.specs.Revisions.{Seen}
use Rattle.dg_editor.specs.declared.cause.EditCause.{EditCause}
use Rattle.dg_editor.specs.Machine.{State as Editor}
use Rattle.dg_play.specs.Work.{Work, moved_on}

-- the editor's state, and the revision of each live pin by its number
pub record SessionView : Type 0 where
  pub editor : Editor
  pub live : ℕ → Option Seen

abbrev pub view_with : SessionView → Editor → SessionView
view_with v e = record { editor = e; live = v.live }

abbrev pub now_in : SessionView → Seen
now_in v = v.editor.now

abbrev pub graph_in : SessionView → Graph
graph_in v = v.editor.now.graph

abbrev pub next_in : SessionView → ℕ
next_in v = v.editor.now.next

-- nothing is pinned
abbrev pub no_pin : ℕ → Option Seen
no_pin n = None

-- ---- an edit, an undo and a redo

-- the editor is at its next state and the pins are as they were, or it refuses and nothing changed
abbrev pub IsMoved : {A : Type 0} → Result Editor EditCause → SessionView → SessionView → Result A EditCause → Type 0
IsMoved r v w (Ok x) = (r ≡ Ok w.editor) × (w.live ≡ v.live)
IsMoved r v w (Err c) = (r ≡ Err c) × (w ≡ v)

-- ---- pins

-- one more pin, at the current revision
abbrev pub live_with : SessionView → ℕ → ℕ → Option Seen
live_with v n m = cond (m == n) (Some v.editor.now) (v.live m)

abbrev pub with_live : SessionView → ℕ → SessionView
with_live v n = record { editor = v.editor; live = live_with v n }

-- one fewer
abbrev pub live_without : SessionView → ℕ → ℕ → Option Seen
live_without v n m = cond (m == n) None (v.live m)

abbrev pub without_live : SessionView → ℕ → SessionView
without_live v n = record { editor = v.editor; live = live_without v n }

-- the revision that is asked: the current one, or that of a live pin
abbrev pub revision_at : SessionView → Option ℕ → Option Seen
revision_at v None = Some v.editor.now
revision_at v (Some n) = v.live n

-- ---- the work that was done

-- where this work was done in a session that began at a revision, over a cache for so many entries, the call leaves
-- that work
abbrev pub Leaves : {X : Type 0} → (X → Seen → ℕ → Work → Type 0) → X → X → (ℕ → Work → Work) → Type 0
Leaves has_done before now after = (first : Seen) (capacity : ℕ) (w : Work) → has_done before first capacity w → has_done now first capacity (after capacity w)

-- the cache is at the current revision, and all else is as it was
abbrev pub MovesOn : {X : Type 0} → (X → SessionView) → (X → Seen → ℕ → Work → Type 0) → X → X → Type 0
MovesOn shows has_done before now = Leaves has_done before now (λ c w. moved_on (now_in (shows before)) (now_in (shows now)) w)
