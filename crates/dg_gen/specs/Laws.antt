-- What holds of every project that is made, as statements that contracts name.
use Rattle.std.specs.Prelude.{ℕ, ◌≤◌, ◌^◌, IsTrue}
use Rattle.dg_files.specs.Tree.{are_distinct}
use Rattle.dg_gen.specs.Project.{project_files}

-- the paths of a project's files differ, where their numbers have at most the 64 digits that a decimal has
abbrev pub GeneratedPathsDiffer : Type 0
GeneratedPathsDiffer = (seed size : ℕ) → size ≤ 10 ^ 64 → IsTrue (are_distinct (project_files seed size))
