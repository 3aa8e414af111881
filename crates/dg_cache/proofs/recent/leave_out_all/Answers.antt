use Rattle.std.proofs.Common.{◌≤◌, ◌+◌, drop, filter, length, not, sym, ap, ◌∙◌, arith}
use Rattle.dg_base.specs.Order.{is_end_among}
use Rattle.dg_cache.specs.Entries.{ends_once}
use Rattle.dg_cache.specs.Layout.{ends_by_use}
use Rattle.dg_cache.proofs.Ends.{outside_one, once_filter, outside-end, outside-next}
use Rattle.dg_cache.proofs.recent.leave_out_all.Goals as goal

pub loop-end-preserved : goal.loop-end-preserved
loop-end-preserved c = (
  ap (filter (λ e. not (is_end_among (drop (c.loop-end.end-index + 1) c.args.gone.now) e))) c.leave_out.ensures.ends
      ∙ outside-next c.args.gone.now c.loop-end.end-index _ (ends_by_use c.loop-end.recency) c.loop-end-test.true ∙ c.loop-end.invariant.0,
  ap ends_once c.leave_out.ensures.ends ∙ once_filter (outside_one _) (ends_by_use c.loop-end.recency) c.loop-end.invariant.1,
  λ n. c.leave_out.ensures.most n ∙ c.loop-end.invariant.2 n,
)

pub returns-clause-ends : goal.returns-clause-ends
returns-clause-ends c =
    let past = c.loop-end-test.false in
    let all : length c.args.gone.now ≤ c.loop-end.end-index = omega (arith, past) in
    sym (outside-end c.args.gone.now c.loop-end.end-index (ends_by_use c.loop-end.recency) all) ∙ c.loop-end.invariant.0
