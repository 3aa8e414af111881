use Rattle.std.proofs.Common.{ap, ◌∙◌}
use Rattle.dg_cache.specs.Layout.{entries_from}
use Rattle.dg_cache.proofs.Pairs.{entries-removed}
use Rattle.dg_cache.proofs.values.take_out.Goals as goal

pub returns : goal.returns
returns c = ap entries_from c.in_ok-remove.ensures.ok ∙ entries-removed c.args.at c.args.values.now c.requires
