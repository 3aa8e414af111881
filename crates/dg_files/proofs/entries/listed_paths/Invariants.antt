use Rattle.std.proofs.Common.{◌≡◌, ◌++◌, drop}
use Rattle.dg_files.specs.Tree.{listed}
use Rattle.dg_files.specs.Kept.{tree_of}
use Rattle.dg_files.proofs.entries.listed_paths.Given as goal

abbrev pub invariant-loop-file : goal.invariant-loop-file
invariant-loop-file l = l.paths ++ listed (tree_of (drop l.file-index l.files)) ≡ listed (tree_of l.files)
