-- A project and a script, by a seed and a size.
use Rattle.std.specs.Prelude.{ℕ, List}
use Rattle.dg_files.specs.Tree.{Tree}
use Rattle.dg_gen.specs.Draws.{draws, draws_of_project}
use Rattle.dg_gen.specs.Files.{files_of}
use Rattle.dg_gen.specs.Script.{script_of}

-- all draws that a project takes
abbrev pub draws_for : ℕ → ℕ → List ℕ
draws_for seed size = draws seed (draws_of_project size)

abbrev pub project_files : ℕ → ℕ → Tree
project_files seed size = files_of (draws_for seed size) size

abbrev pub project_script : ℕ → ℕ → List ℕ
project_script seed size = script_of (draws_for seed size) size
