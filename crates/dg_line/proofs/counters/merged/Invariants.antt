use Rattle.std.proofs.Common.{◌≡◌, ◌+◌, ◌++◌, All, IsTrue, length}
use Rattle.dg_base.specs.declared.limits.TheConstants.{REVISIONS}
use Rattle.dg_base.specs.Order.{ends_rise}
use Rattle.dg_line.specs.Counts.{counted_ends, raised, IsAtMost}
use Rattle.dg_line.proofs.counters.merged.Given as goal

abbrev pub invariant-loop-all : goal.invariant-loop-all
invariant-loop-all l =
    (l.all.items ++ raised l.left l.new ≡ raised l.kept l.ends)
    × IsTrue (ends_rise (counted_ends l.left)) × IsTrue (ends_rise l.new) × All (IsAtMost REVISIONS) l.left

abbrev pub decreases-loop-all : goal.decreases-loop-all
decreases-loop-all l = length l.left + length l.new
