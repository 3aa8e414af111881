use Rattle.std.specs.Prelude.{◌≡◌, ◌≤◌}
use Rattle.dg_crowd.proofs.crowd.follow_all.Given as goal

abbrev pub invariant-loop-round : goal.invariant-loop-round
invariant-loop-round g l = (l.pass.number ≡ 0) × (l.pass.made.follows ≤ l.round)
