use Rattle.std.proofs.Common.{◌≡◌, ◌≤◌, None, length, drop}
use Rattle.dg_bind.specs.Scope.{last_place}
use Rattle.dg_bind.proofs.scope.last_place.Given as goal

abbrev pub invariant-loop-end : goal.invariant-loop-end
invariant-loop-end l = (last_place (drop l.end l.names) l.name ≡ None) × (l.end ≤ length l.names)

abbrev pub decreases-loop-end : goal.decreases-loop-end
decreases-loop-end l = l.end
