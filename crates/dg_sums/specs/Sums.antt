-- What a project that was made and played comes to, in four lines.
use Rattle.std.specs.Prelude.{ℕ, List, [], ◌∷◌, ◌++◌, codes}
use Rattle.std.specs.Fmt.{decimal}
use Rattle.dg_base.specs.declared.datum.Datum.{Datum}
use Rattle.dg_base.specs.Tables.{Tables}
use Rattle.dg_decimal.specs.Canonical.{canonical}
use Rattle.dg_script.specs.declared.command.Command.{Command}
use Rattle.dg_play.specs.Play.{Line}
use Rattle.dg_sums.specs.declared.counts.Deed.TheVariants as deed
use Rattle.dg_sums.specs.declared.counts.Outcome.TheVariants as outcome
use Rattle.dg_sums.specs.Counts.{deeds_in, asks_in, answers_in}
use Rattle.dg_sums.specs.Builds.{values_built, files_written, sum_along_x, entries_built}

-- the files that were loaded, and the nodes and arcs of the graph before the first command
abbrev pub files_line : ℕ → ℕ → ℕ → List ℕ
files_line files nodes arcs =
    codes "files " ++ decimal files ++ codes " nodes " ++ decimal nodes ++ codes " arcs " ++ decimal arcs ++ 10 ∷ []

-- the transactions, undos and redos that were done, and the questions
abbrev pub edits_line : List Command → List Line → List ℕ
edits_line commands lines =
    codes "edits " ++ decimal (deeds_in deed.Transaction commands lines)
    ++ codes " undos " ++ decimal (deeds_in deed.Undo commands lines)
    ++ codes " redos " ++ decimal (deeds_in deed.Redo commands lines)
    ++ codes " asks " ++ decimal (asks_in commands)
    ++ 10 ∷ []

-- how many questions have a good answer, one with faults, and none but that it depends on itself
abbrev pub answers_line : Tables → List Line → List ℕ
answers_line t lines =
    codes "good " ++ decimal (answers_in t outcome.Good lines)
    ++ codes " bad " ++ decimal (answers_in t outcome.Bad lines)
    ++ codes " cycle " ++ decimal (answers_in t outcome.Cycle lines)
    ++ 10 ∷ []

-- the files that are written for the values built, and the sum of how far along x their entries stand
abbrev pub built_line : List (List ℕ) → List Datum → List ℕ
built_line names values =
    codes "built " ++ decimal (files_written names values) ++ codes " sum " ++ canonical (sum_along_x (entries_built values)) ++ 10 ∷ []

-- of the lines that the commands print. Open names are written as those that are interned at the end: what is interned
-- stays
abbrev pub sum_lines : Tables → ℕ → ℕ → ℕ → List Command → List Line → List (List ℕ) → List (List ℕ)
sum_lines t files nodes arcs commands lines names =
    files_line files nodes arcs
    ∷ edits_line commands lines
    ∷ answers_line t lines
    ∷ built_line names (values_built t lines)
    ∷ []
