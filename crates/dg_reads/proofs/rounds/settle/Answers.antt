use Rattle.std.proofs.Common.{length}
use Rattle.dg_reads.proofs.DirtyRounds.{settled-in_order, settled-last, settled-next}
use Rattle.dg_reads.proofs.rounds.settle.Goals as goal

pub returns-then-not-branch : goal.returns-then-not-branch
returns-then-not-branch c =
    settled-last c.args.all.now c.args.dirty.now c.loop-round._round c.loop-round.dirty c.spread.new.dirty c.loop-round.invariant.so_far c.in_ok-spread.ensures.ok
    (length c.args.all.now) c.loop-round-test.true (c.in_ok-spread.ensures.more c.if-not-branch.true)

pub loop-round-preserved : goal.loop-round-preserved
loop-round-preserved c = record {
  so_far = settled-next c.args.all.now c.args.dirty.now c.loop-round._round c.loop-round.dirty c.spread.new.dirty c.loop-round.invariant.so_far c.in_ok-spread.ensures.ok;
  in_order = settled-in_order c.args.all.now c.args.dirty.now c.loop-round._round c.loop-round.dirty c.spread.new.dirty c.loop-round.invariant.so_far c.in_ok-spread.ensures.ok;
}
