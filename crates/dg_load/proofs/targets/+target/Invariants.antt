use Rattle.std.proofs.Common.{◌+◌, ◌*◌, length}
use Rattle.dg_load.proofs.targets.+target.Given as goal

abbrev pub decreases-target : goal.decreases-target
decreases-target l = 3 * length l.ids.now

abbrev pub decreases-target_in : goal.decreases-target_in
decreases-target_in l = 3 * length l.more.now + 2

abbrev pub decreases-through : goal.decreases-through
decreases-through l = 3 * length l.more.now + 1
