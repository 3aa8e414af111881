use Rattle.std.proofs.Common.{◌≡◌, ◌+◌, drop}
use Rattle.dg_files.specs.Kept.{tree_of, place_in}
use Rattle.dg_files.proofs.entries.place_in.Given as goal

abbrev pub invariant-loop-place : goal.invariant-loop-place
invariant-loop-place l = l.place + place_in (tree_of (drop l.place l.files)) l.path ≡ place_in (tree_of l.files) l.path
