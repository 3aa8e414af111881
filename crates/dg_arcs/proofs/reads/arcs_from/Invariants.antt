use Rattle.std.proofs.Common.{◌≡◌, ◌++◌, ◌-◌, drop, length}
use Rattle.dg_arcs.specs.Kept.{arcs_after}
use Rattle.dg_arcs.proofs.reads.arcs_from.Given as goal

abbrev pub invariant-loop-place : goal.invariant-loop-place
invariant-loop-place l = l.arcs.items ++ arcs_after l.node (drop l.place l.sources) ≡ arcs_after l.node (drop l.start l.sources)

abbrev pub decreases-loop-place : goal.decreases-loop-place
decreases-loop-place l = length l.sources - l.place
