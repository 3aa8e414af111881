use Rattle.std.proofs.Common.{◌≡◌, ◌-◌, ◌≤◌, drop, length}
use Rattle.dg_play.specs.Play.{bind_made}
use Rattle.dg_play.proofs.state.bind_made.Given as goal

abbrev pub invariant-loop-place : goal.invariant-loop-place
invariant-loop-place l =
    (bind_made l.bound (drop l.place l.names) (drop l.place l.nodes) ≡ bind_made l.initial.bound l.names l.nodes)
    × (l.place ≤ length l.names) × (l.place ≤ length l.nodes)

abbrev pub decreases-loop-place : goal.decreases-loop-place
decreases-loop-place l = length l.names - l.place
