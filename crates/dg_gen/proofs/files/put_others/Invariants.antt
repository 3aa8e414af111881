use Rattle.std.proofs.Common.{◌≡◌, ◌++◌, map}
use Rattle.std.specs.List.{range_with_len}
use Rattle.dg_files.specs.Kept.{tree_of}
use Rattle.dg_gen.specs.Files.{outer_file}
use Rattle.dg_gen.proofs.files.put_others.Given as goal

abbrev pub invariant-loop-number : goal.invariant-loop-number
invariant-loop-number l =
    tree_of l.files.items ≡ tree_of l.initial.files.items ++ map (outer_file l.draws l.size) (range_with_len 0 l.number)
