-- What files in memory are seen as.
use Rattle.std.specs.Prelude.{ℕ, suc, if◌then◌else◌, List, [], ◌∷◌, String, Vec, string_bytes}
use Rattle.std.specs.declared.alloc.Global.{Global}
use Rattle.std.specs.Str.{bytes_eq}
use Rattle.dg_files.specs.Tree.{Tree}
use Rattle.dg_files.specs.Plan.{Plan}

-- the tree, and which calls fail
pub record Kept : Type 0 where
  pub tree : Tree
  pub calls : Plan

-- a file as it is kept: its path and its bytes
abbrev pub Entry : Type 0
Entry = String Global × Vec ℕ Global

-- the tree of the files that are kept
abbrev pub tree_of : List Entry → Tree
tree_of [] = []
tree_of (file ∷ files) = record { path = string_bytes file.0; bytes = file.1.items } ∷ tree_of files

-- how many files stand before that of a path, which is all of them where there is none
abbrev pub place_in : Tree → List ℕ → ℕ
place_in [] path = 0
place_in (file ∷ files) path = if bytes_eq file.path path then 0 else suc (place_in files path)
