use Rattle.std.specs.Prelude.{◌≡◌, ◌+◌, ◌*◌, ◌≤◌, length}
use Rattle.dg_room.specs.Made.{sum_of}
use Rattle.dg_room.specs.Names.{act_parts}
use Rattle.dg_room.proofs.pass.merge_all.Given as goal

abbrev pub invariant-loop-pass : goal.invariant-loop-pass
invariant-loop-pass g l = (l.all.follow_parts + l.all.parts ≡ 2 * length l.yielded) × (l.all.follow_parts ≤ 1) × (l.all.parts ≤ act_parts g.K.RoomName.names.passes) × (l.all.made ≡ sum_of l.yielded)
