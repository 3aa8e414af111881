-- Scripts on numbers and sums of them of which the checker computes the work.
use Rattle.std.specs.Prelude.{ℕ, suc, pos, List, [], ◌∷◌, Option, Some, None, false, codes, length}
use Rattle.dg_base.specs.declared.datum.Datum.TheVariants as datum
use Rattle.dg_base.specs.Graph.{empty}
use Rattle.dg_kinds_coll.specs.Defold.{defold_tables}
use Rattle.dg_line.specs.Revisions.{first_revision}
use Rattle.dg_script.specs.declared.command.Command.{Command}
use Rattle.dg_script.specs.declared.command.EpWords.{EpWords}
use Rattle.dg_script.specs.declared.command.StepWords.TheVariants as words
use Rattle.dg_script.specs.declared.command.SetWords.TheVariants as value
use Rattle.dg_script.specs.declared.command.Act.{Act}
use Rattle.dg_script.specs.declared.command.Act.TheVariants as act
use Rattle.dg_play.specs.Play.{State}
use Rattle.dg_play.specs.Work.{Work, work_of}

-- an empty graph, and nothing is named
abbrev pub fresh : State
fresh = record {
  editor = record { now = first_revision empty 1; passed = []; history = record { undo = []; redo = [] } };
  pins = [];
  bound = [];
  names = [];
}

abbrev numbered : ℕ → List Act → List Command
numbered n [] = []
numbered n (a ∷ others) = record { line = n; act = a } ∷ numbered (suc n) others

-- kinds 1 and 2 are numbers and sums
abbrev make : ℕ → List ℕ → Act
make kind name = act.Step (words.Make (record { 0 = kind }) name)

abbrev at : List ℕ → List ℕ → EpWords
at node label = record { node = node; by_name = false; label = label }

abbrev connect : List ℕ → List ℕ → List ℕ → Act
connect from label to = act.Step (words.Connect (at from label) (at to (codes "terms")))

abbrev set : List ℕ → ℕ → Act
set node n = act.Step (words.Set (at node (codes "value")) (value.Plain (datum.Dec (pos n))))

abbrev total : Option (List ℕ) → List ℕ → Act
total pin node = act.Ask pin (at node (codes "total"))

-- what is asked of an old revision comes late where its counter is another one since, also after an undo
abbrev pub late : List Command
late = numbered 1
    (make 1 (codes "x") ∷ make 2 (codes "s") ∷ connect (codes "x") (codes "value") (codes "s") ∷ act.Pin (codes "p") ∷ set (codes "x") 2
    ∷ act.Undo ∷ total (Some (codes "p")) (codes "s") ∷ [])

abbrev pub late_of_deleted : List Command
late_of_deleted = numbered 1
    (make 1 (codes "x") ∷ make 2 (codes "s") ∷ connect (codes "x") (codes "value") (codes "s") ∷ act.Pin (codes "p")
    ∷ act.Step (words.Delete (codes "s")) ∷ act.Undo ∷ total (Some (codes "p")) (codes "s") ∷ [])

-- what is published of an old revision serves the new one
abbrev pub serving : List Command
serving = numbered 1
    (make 1 (codes "x") ∷ make 1 (codes "y") ∷ make 2 (codes "s") ∷ connect (codes "x") (codes "value") (codes "s") ∷ act.Pin (codes "p")
    ∷ set (codes "y") 5 ∷ total (Some (codes "p")) (codes "s") ∷ total None (codes "s") ∷ [])

-- in a cache of one entry what was lost is made again
abbrev pub losing : List Command
losing = numbered 1
    (make 1 (codes "a") ∷ make 2 (codes "s") ∷ make 2 (codes "t") ∷ connect (codes "a") (codes "value") (codes "s")
    ∷ connect (codes "s") (codes "total") (codes "t") ∷ total None (codes "t") ∷ total None (codes "s") ∷ total None (codes "t") ∷ [])

-- how many productions were made, how many entries were kept, how many came late, and how many the cache has
abbrev told : Work → List ℕ
told w = w.made ∷ w.kept ∷ w.late ∷ length w.entries ∷ []

abbrev pub work_told : ℕ → List Command → List ℕ
work_told capacity commands = told (work_of defold_tables capacity commands fresh)
