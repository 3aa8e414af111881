-- A script on a number and a sum of which the checker computes the lines.
use Rattle.std.specs.Prelude.{ℕ, suc, List, [], ◌∷◌, Some, None, false, codes}
use Rattle.dg_kinds_coll.specs.Defold.{defold_tables}
use Rattle.dg_script.specs.declared.command.Command.{Command}
use Rattle.dg_script.specs.declared.command.EpWords.{EpWords}
use Rattle.dg_script.specs.declared.command.StepWords.TheVariants as words
use Rattle.dg_script.specs.declared.command.Act.{Act}
use Rattle.dg_script.specs.declared.command.Act.TheVariants as act
use Rattle.dg_play.specs.Play.{played}
use Rattle.dg_play.specs.Worked.{fresh}
use Rattle.dg_sums.specs.Sums.{sum_lines}

abbrev numbered : ℕ → List Act → List Command
numbered n [] = []
numbered n (a ∷ others) = record { line = n; act = a } ∷ numbered (suc n) others

abbrev at : List ℕ → List ℕ → EpWords
at node label = record { node = node; by_name = false; label = label }

-- kinds 1 and 2 are numbers and sums
abbrev make : ℕ → List ℕ → Act
make kind name = act.Step (words.Make (record { 0 = kind }) name)

abbrev ask : List ℕ → List ℕ → Act
ask node label = act.Ask None (at node label)

-- two nodes in a block, and a number that is set, with one undo too many and one redo too many; then answers that are
-- good, bad and of a sum of itself, a question at no pin, and a build that is bad
abbrev pub mixed : List Command
mixed = numbered 1
    (act.Block (words.Make (record { 0 = 1 }) (codes "x") ∷ words.Make (record { 0 = 2 }) (codes "s") ∷ [])
    ∷ act.Undo ∷ act.Undo ∷ act.Redo ∷ act.Redo
    ∷ act.Step (words.Connect (at (codes "s") (codes "total")) (at (codes "s") (codes "terms")))
    ∷ ask (codes "x") (codes "value") ∷ ask (codes "x") (codes "total") ∷ ask (codes "s") (codes "total")
    ∷ act.Ask (Some (codes "p")) (at (codes "x") (codes "value")) ∷ act.Build (codes "x") ∷ [])

abbrev pub lines_of : List Command → List (List ℕ)
lines_of commands = sum_lines defold_tables 3 7 4 commands (played defold_tables commands fresh).lines (played defold_tables commands fresh).state.names
