use Rattle.std.proofs.Common.{◌≡◌, ◌++◌, flat_map}
use Rattle.std.specs.List.{range_with_len}
use Rattle.dg_files.specs.Kept.{tree_of}
use Rattle.dg_gen.specs.Files.{object_files}
use Rattle.dg_gen.proofs.files.put_objects.Given as goal

abbrev pub invariant-loop-number : goal.invariant-loop-number
invariant-loop-number l =
    tree_of l.files.items ≡ tree_of l.initial.files.items ++ flat_map (object_files l.draws) (range_with_len 0 l.number)
