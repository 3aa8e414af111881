-- What a world shows to the play of commands, and the work that it did.
use Rattle.std.specs.Prelude.{◌≡◌, ℕ, List, Option, length}
use Rattle.std.specs.Option.{option_map}
use Rattle.dg_base.specs.declared.ids.Endpoint.{Endpoint}
use Rattle.dg_base.specs.Tables.{Tables}
use Rattle.dg_line.specs.Revisions.{Seen}
use Rattle.dg_line.specs.Tickets.{Pin}
use Rattle.dg_editor.specs.Seeing.{state_of as editor_of}
use Rattle.dg_world.specs.Worlds.{Worlded, pin_at}
use Rattle.dg_asks.specs.Told.{AreWhole, asks_told, evictions_told, kept_told, late_told, numbers_below, numbers_told}
use Rattle.dg_play.specs.Sessions.{SessionView}
use Rattle.dg_play.specs.Work.{Work, after_ask, moved_on}

-- ---- what it shows

abbrev pub revision_in : {M : Type 0} → Pin Seen M → Seen
revision_in p = p.revision

-- the revision of a live pin, by its number
abbrev pub live_in : {M : Type 0} → List (Option (Pin Seen M)) → ℕ → Option Seen
live_in ps n = option_map revision_in (pin_at ps n)

abbrev pub view_of : {N M : Type 0} → Worlded N M → SessionView
view_of w = record { editor = editor_of w.editor; live = live_in w.pins }

-- ---- the work that it did

abbrev pub work_in : {N M : Type 0} → Worlded N M → Work
work_in w = record {
  entries = w.desk.entries;
  made = w.made;
  kept = kept_told w.desk.history;
  late = late_told w.desk.history;
  asks = asks_told w.desk.history;
  evictions = evictions_told w.desk.history;
}

-- each record is whole, and each offer was published once, in order
pub record IsWhole {N M : Type 0} (w : Worlded N M) : Type 0 where
  pub records : AreWhole w.desk.history
  pub numbers : numbers_told w.desk.history ≡ numbers_below (length w.offers)

-- a world that began at a revision, with a cache for so many entries, did this work
pub record HasDone {N M : Type 0} (w : Worlded N M) (first : Seen) (capacity : ℕ) (done : Work) : Type 0 where
  pub work : work_in w ≡ done
  pub opened : w.desk.opened.revision ≡ first
  pub capacity_is : w.desk.capacity ≡ capacity

-- a later world has this work done, over the cache that was opened once
pub record IsWorked {N M : Type 0} (w v : Worlded N M) (done : Work) : Type 0 where
  pub work : work_in v ≡ done
  pub opened : v.desk.opened ≡ w.desk.opened
  pub capacity : v.desk.capacity ≡ w.desk.capacity

-- the cache is at the revision of the later world, and all else is as it was
abbrev pub IsMovedOn : {N M : Type 0} → Worlded N M → Worlded N M → Type 0
IsMovedOn w v = IsWorked w v (moved_on w.editor.here.revision v.editor.here.revision (work_in w))

-- the same pins are live, under the same numbers
abbrev pub SameLive : {P : Type 0} → List (Option P) → List (Option P) → Type 0
SameLive before now = (n : ℕ) → pin_at now n ≡ pin_at before n

-- an endpoint was evaluated at a revision, and published
pub record IsAsked {N M : Type 0} (t : Tables) (p : Pin Seen M) (e : Endpoint) (w v : Worlded N M) : Type 0 where
  pub editor : v.editor ≡ w.editor
  pub live : SameLive w.pins v.pins
  pub whole : IsWhole v
  pub worked : IsWorked w v (after_ask t w.desk.capacity w.editor.here.revision (record { revision = p.revision; at = e }) (work_in w))
