use Rattle.std.proofs.Common.{◌≡◌, length}
use Rattle.dg_files.specs.Tree.{are_distinct}
use Rattle.dg_files.specs.Kept.{tree_of}
use Rattle.dg_files.proofs.entries.are_distinct.Given as goal

abbrev pub invariant-loop-file : goal.invariant-loop-file
invariant-loop-file l = are_distinct (tree_of l.rest) ≡ are_distinct (tree_of l.files)

abbrev pub decreases-loop-file : goal.decreases-loop-file
decreases-loop-file l = length l.rest
