use Rattle.std.proofs.Common.{◌≡◌, ◌++◌, map, take}
use Rattle.dg_build.specs.Targets.{object_targets}
use Rattle.dg_build.proofs.files.put_object_targets.Given as goal

abbrev pub invariant-loop-number : goal.invariant-loop-number
invariant-loop-number l = l.all ≡ l.initial.all ++ object_targets l.stem (take l.number (map (λ t. t.now) l.text-items))
