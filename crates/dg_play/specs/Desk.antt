-- What the desk of a run tells of the work that was done.
use Rattle.std.specs.Prelude.{◌≡◌, ℕ, ◌+◌, List, [], ◌∷◌, Bool, true, false, flat_map, length, count_by}
use Rattle.dg_asks.specs.Asks.{Ask}
use Rattle.dg_asks.specs.Told.{AreTold, AreUnrefused, AreWhole, as_seen, asks_told, evictions_told, follows_told, kept_told, late_told, numbers_below, numbers_told}
use Rattle.dg_base.specs.Tables.{Tables}
use Rattle.dg_line.specs.Revisions.{Seen}
use Rattle.dg_desk.specs.Desks.{Desked, IsDesk, state_of}
use Rattle.dg_world.specs.Laws.{AreSourced}
use Rattle.dg_script.specs.declared.command.Command.{Command}
use Rattle.dg_script.specs.declared.command.Act.{Act}
use Rattle.dg_script.specs.declared.command.Act.TheVariants as act
use Rattle.dg_play.specs.declared.ending.WorkDone.{WorkDone}
use Rattle.dg_play.specs.Play.{State, Reply, Answers, Builds, Line, played}
use Rattle.dg_play.specs.Work.{work_of}

-- the answers that the lines of a play have, in order
abbrev pub answer_in : Reply → List Ask
answer_in (Answers a) = a ∷ []
answer_in (Builds a) = a ∷ []
answer_in _ = []

abbrev pub answers_in : List Line → List Ask
answers_in ls = flat_map (λ (l : Line). answer_in l.reply) ls

abbrev pub is_evict : Act → Bool
is_evict (act.Evict most) = true
is_evict _ = false

-- what holds of the desk when the commands were played on one thread from a state, over a cache for so many entries
pub record IsDeskOf {M : Type 0} (t : Tables) (capacity : ℕ) (commands : List Command) (begin : State) (d : Desked Seen M) : Type 0 where
  -- each entry is its endpoint's value now, and the history tells how the desk came here
  pub coherent : IsDesk as_seen t d
  -- it is at the last revision
  pub now : (state_of as_seen d).now.revision ≡ (played t commands begin).state.editor.now
  -- it followed each revision after the first
  pub follows : begin.editor.now.number + follows_told d.history ≡ (played t commands begin).state.editor.now.number
  -- it evicted once for each command that says so
  pub evictions : evictions_told d.history ≡ count_by (λ (c : Command). is_evict c.act) commands
  -- each record is whole: every follow kept what is clean, every publication put all that it kept, and every
  -- eviction dropped all that it named
  pub whole : AreWhole d.history
  -- what was published is what was asked for, in order, each once
  pub asks : asks_told d.history ≡ answers_in (played t commands begin).lines
  -- the publications are numbered from 0
  pub numbers : numbers_told d.history ≡ numbers_below (length (answers_in (played t commands begin).lines))
  -- what an evaluation found known was published before, at a revision whose counter of it is the same
  pub sources : AreSourced as_seen d.history
  -- entries, and how many were kept and came late, are those of the work by the play alone
  pub entries : d.entries ≡ (work_of t capacity commands begin).entries
  pub kept : kept_told d.history ≡ (work_of t capacity commands begin).kept
  pub late : late_told d.history ≡ (work_of t capacity commands begin).late

-- what holds of it when workers evaluated what the commands ask for
pub record IsSharedDeskOf {M : Type 0} (t : Tables) (commands : List Command) (begin : State) (d : Desked Seen M) : Type 0 where
  pub coherent : IsDesk as_seen t d
  pub now : (state_of as_seen d).now.revision ≡ (played t commands begin).state.editor.now
  pub follows : begin.editor.now.number + follows_told d.history ≡ (played t commands begin).state.editor.now.number
  pub evictions : evictions_told d.history ≡ count_by (λ (c : Command). is_evict c.act) commands
  -- no record is one of wanting memory
  pub unrefused : AreUnrefused d.history
  -- what was asked for is numbered from 0, in order, and each answer was published under its number; what that
  -- evaluation found known was published before, at a revision whose counter of it is the same
  pub asks : AreTold d.history (answers_in (played t commands begin).lines)

-- the counts of the work by the play alone
pub record IsWorkOf (t : Tables) (capacity : ℕ) (commands : List Command) (begin : State) (done : WorkDone) : Type 0 where
  pub made : done.made ≡ (work_of t capacity commands begin).made
  pub kept : done.kept ≡ (work_of t capacity commands begin).kept
  pub late : done.late ≡ (work_of t capacity commands begin).late
