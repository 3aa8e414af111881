use Rattle.std.proofs.Common.{◌≡◌, ◌++◌, map, take}
use Rattle.dg_build.specs.Contents.{content_of}
use Rattle.dg_build.specs.Targets.{component_targets}
use Rattle.dg_build.proofs.files.put_component_targets.Given as goal

abbrev pub invariant-loop-number : goal.invariant-loop-number
invariant-loop-number l = l.all ≡ l.initial.all ++ component_targets l.stem (take l.number (map content_of l.content-items))
