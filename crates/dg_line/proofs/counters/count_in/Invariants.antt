use Rattle.std.proofs.Common.{◌≡◌, IsTrue, length}
use Rattle.dg_base.specs.Order.{ends_rise}
use Rattle.dg_line.specs.Counts.{count_in, counted_ends}
use Rattle.dg_line.proofs.counters.count_in.Given as goal

abbrev pub invariant-loop-middle : goal.invariant-loop-middle
invariant-loop-middle l = (count_in l.rest l.at ≡ count_in l.kept l.at) × IsTrue (ends_rise (counted_ends l.rest))

abbrev pub decreases-loop-middle : goal.decreases-loop-middle
decreases-loop-middle l = length l.rest
