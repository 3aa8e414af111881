use Rattle.std.proofs.Common.{◌≡◌, ◌++◌, map, take}
use Rattle.dg_tool.specs.Out.{write_of}
use Rattle.dg_tool.proofs.doing.put_targets.Given as goal

abbrev pub invariant-loop-target : goal.invariant-loop-target
invariant-loop-target l = l.deeds.items ≡ l.initial.deeds.items ++ map write_of (take l.target-index l.targets)
