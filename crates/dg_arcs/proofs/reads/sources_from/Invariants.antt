use Rattle.std.proofs.Common.{◌≡◌, ◌++◌, ◌-◌, drop, length}
use Rattle.dg_arcs.specs.Kept.{sources_after}
use Rattle.dg_arcs.proofs.reads.sources_from.Given as goal

abbrev pub invariant-loop-place : goal.invariant-loop-place
invariant-loop-place l = l.sources.items ++ sources_after l.node l.input (drop l.place l.targets) ≡ sources_after l.node l.input (drop l.start l.targets)

abbrev pub decreases-loop-place : goal.decreases-loop-place
decreases-loop-place l = length l.targets - l.place
