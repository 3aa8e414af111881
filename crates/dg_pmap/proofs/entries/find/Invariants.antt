use Rattle.std.proofs.Common.{◌-◌, ◌≤◌, length}
use Rattle.std.specs.declared.cmp.Ordering.TheVariants.{Less}
use Rattle.dg_pmap.specs.Places.{AboveFirst, AnswersAt}
use Rattle.dg_pmap.proofs.entries.find.Given as goal

abbrev pub invariant-loop-low : goal.invariant-loop-low
invariant-loop-low g l = record {
  ordered : l.low ≤ l.high;
  inside : l.high ≤ length l.entries;
  above : AboveFirst g.K.Ord.cmp l.key l.entries l.low;
  below : AnswersAt g.K.Ord.cmp l.key l.entries l.high Less;
}

abbrev pub decreases-loop-low : goal.decreases-loop-low
decreases-loop-low g l = l.high - l.low
