use Rattle.std.proofs.Common.{◌≡◌, ◌++◌, ◌-◌, drop, length}
use Rattle.dg_basis.specs.Keys.{overs_after}
use Rattle.dg_basis.proofs.overs.overs_from.Given as goal

abbrev pub invariant-loop-place : goal.invariant-loop-place
invariant-loop-place l = l.found.items ++ overs_after l.node (drop l.place l.overs) ≡ overs_after l.node (drop l.start l.overs)

abbrev pub decreases-loop-place : goal.decreases-loop-place
decreases-loop-place l = length l.overs - l.place
