use Rattle.std.proofs.Common.{arith}
use Rattle.dg_load.proofs.whole.copy_names.Goals as goal

pub loop-place-preserved : goal.loop-place-preserved
loop-place-preserved c = record {
  within = omega (arith, c.loop-place-test.true, c.count-count.ensures.count);
  copied = c.in_ok-copy_next.ensures c.count-count.ensures.once c.loop-place.invariant.copied;
}
