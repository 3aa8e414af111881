use Rattle.std.proofs.Common.{get_or, ap, ◌∙◌}
use Rattle.dg_base.specs.Order.{put_end}
use Rattle.dg_laws.proofs.Ends.{ends_rank}
use Rattle.dg_reads.proofs.PutInOrder.{ordered-next}
use Rattle.dg_reads.proofs.sets.EndSet.of.Goals as goal

pub loop-end-preserved : goal.loop-end-preserved
loop-end-preserved c =
    c.in_ok-put.ensures.ok
    ∙ ap (put_end (get_or c.args.ends.now c.loop-end.end-index _)) c.loop-end.invariant
    ∙ ordered-next ends_rank c.args.ends.now c.loop-end.end-index _ c.loop-end-test.true
