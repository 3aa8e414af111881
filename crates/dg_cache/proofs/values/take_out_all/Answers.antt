use Rattle.std.proofs.Common.{◌≤◌, ◌+◌, drop, length, sym, ap, ◌∙◌, arith}
use Rattle.dg_cache.specs.Entries.{ends_of, ends_once, without}
use Rattle.dg_cache.specs.Layout.{entries_from}
use Rattle.dg_cache.proofs.Ends.{outside_one, once_filter}
use Rattle.dg_cache.proofs.Listing.{ends-kept, without-end, without-next}
use Rattle.dg_cache.proofs.values.take_out_all.Goals as goal

pub loop-end-preserved : goal.loop-end-preserved
loop-end-preserved c = (
  ap (without (drop (c.loop-end.end-index + 1) c.args.gone.now)) c.in_ok-take_out.ensures
      ∙ without-next c.args.gone.now c.loop-end.end-index _ (entries_from c.loop-end.values) c.loop-end-test.true ∙ c.loop-end.invariant.0,
  ap (λ z. ends_once (ends_of z)) c.in_ok-take_out.ensures
      ∙ ap ends_once (ends-kept (outside_one _) (entries_from c.loop-end.values)) ∙ once_filter (outside_one _) (ends_of (entries_from c.loop-end.values)) c.loop-end.invariant.1,
)

pub returns : goal.returns
returns c =
    let past = c.loop-end-test.false in
    let all : length c.args.gone.now ≤ c.loop-end.end-index = omega (arith, past) in
    sym (without-end c.args.gone.now c.loop-end.end-index (entries_from c.loop-end.values) all) ∙ c.loop-end.invariant.0
