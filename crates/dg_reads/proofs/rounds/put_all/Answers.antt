use Rattle.std.proofs.Common.{get_or, sym, ap, ◌∙◌, true≢false}
use Rattle.dg_base.specs.Order.{put_end}
use Rattle.dg_reads.proofs.DirtyRounds.{ordered-more}
use Rattle.dg_reads.proofs.rounds.put_all.Goals as goal
use Rattle.dg_reads.proofs.rounds.put_all.Goals.{then-branch, else-branch}

pub loop-end-preserved : goal.loop-end-preserved
loop-end-preserved c = record {
  so_far =
      c.in_ok-put.ensures.ok
      ∙ ap (put_end (get_or c.args.ends.now c.loop-end.end-index _)) c.loop-end.invariant.so_far
      ∙ ordered-more c.args.dirty.now c.args.ends.now c.loop-end.end-index _ c.loop-end-test.true;
  more =
      elim c.if-branch.branch [
        | then-branch w ↦ (λ h. absurd (true≢false (sym w.more-is ∙ h)))
        | else-branch w ↦ (λ h. c.in_ok-put.ensures.added w.if-branch.false ∙ c.loop-end.invariant.more (sym w.more-is ∙ h))
      ];
}
