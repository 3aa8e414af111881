use Rattle.std.specs.Prelude.{◌≡◌, ◌+◌, ◌*◌}
use Rattle.dg_room.specs.Made.{AreFresh, none_made}
use Rattle.dg_room.proofs.pass.split_all.Given as goal

abbrev pub invariant-loop-number : goal.invariant-loop-number
invariant-loop-number g l = (l.whole.follow_parts ≡ 0) × (l.whole.parts + 2 * l.number ≡ 2 * l.passes) × (l.whole.made ≡ none_made) × AreFresh l.number l.all.items
