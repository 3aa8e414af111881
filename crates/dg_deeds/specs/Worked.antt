-- Deeds of which the checker computes what they leave.
use Rattle.std.specs.Prelude.{ℕ, List, [], ◌∷◌, codes}
use Rattle.dg_files.specs.Tree.{File, Tree}
use Rattle.dg_deeds.specs.declared.deed.Deed.{Deed}
use Rattle.dg_deeds.specs.declared.deed.Deed.TheVariants.{Write, Put}

abbrev pub file : List ℕ → List ℕ → File
file path bytes = record { path = path; bytes = bytes }

-- two files, each before the line that tells of it
abbrev pub two_builds : List Deed
two_builds =
    Write (codes "/a") (codes "new") ∷ Put (codes "1: a ") ∷ Write (codes "/b") (codes "two") ∷ Put (codes "2: b ") ∷ []

-- the files before, after the first line, and at the end
abbrev pub tree_before : Tree
tree_before = file (codes "/a") (codes "old") ∷ []

abbrev pub tree_between : Tree
tree_between = file (codes "/a") (codes "new") ∷ []

abbrev pub tree_behind : Tree
tree_behind = file (codes "/a") (codes "new") ∷ file (codes "/b") (codes "two") ∷ []
