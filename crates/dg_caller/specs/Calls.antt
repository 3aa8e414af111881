-- The session of a script that is played with workers: what it shows, and what it has done.
use Rattle.std.specs.Prelude.{◌≡◌, ◌≤◌, ◌+◌, ℕ, List, Option}
use Rattle.std.specs.Option.{option_map}
use Rattle.dg_asks.specs.Asks.{Ask}
use Rattle.dg_editor.specs.Seeing.{Editing, state_of}
use Rattle.dg_line.specs.Revisions.{Seen}
use Rattle.dg_line.specs.Tickets.{Pin}
use Rattle.dg_play.specs.Sessions.{SessionView}
use Rattle.dg_play.specs.Work.{Work}
use Rattle.dg_room.specs.Made.{Passed}
use Rattle.dg_world.specs.Worlds.{pin_at}

-- the revision of a live pin
abbrev pub live_in : {M : Type 0} → List (Option (Pin Seen M)) → ℕ → Option Seen
live_in ps n = option_map (λ p. p.revision) (pin_at ps n)

abbrev pub view_of : {N M : Type 0} → Editing N M → List (Option (Pin Seen M)) → SessionView
view_of e ps = record { editor = state_of e; live = live_in ps }

-- the cache can follow the next step: it is followed with the first pass, which followed no more often than there were
-- steps
pub record CanFollow (p : Passed) (now : Seen) : Type 0 where
  pub number : p.number ≡ 0
  pub follows : p.made.follows ≤ now.number

-- what was asked is that of the work, in order; there were so many evictions; and each revision after the first was
-- followed
pub record HasDone (asked : List Ask) (p : Passed) (now first : Seen) (w : Work) : Type 0 where
  pub asks : asked ≡ w.asks
  pub evictions : p.made.evictions ≡ w.evictions
  pub follows : first.number + p.made.follows ≡ now.number
