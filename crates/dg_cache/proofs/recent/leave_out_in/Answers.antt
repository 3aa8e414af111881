use Rattle.std.proofs.Common.{ap, ◌∙◌}
use Rattle.std.specs.Map.{keys_of}
use Rattle.dg_cache.proofs.ByUse.{keys-removed}
use Rattle.dg_cache.proofs.recent.leave_out_in.Goals as goal

pub returns-clause-ends : goal.returns-clause-ends
returns-clause-ends c = ap (λ o. keys_of o.entries) c.pop.ensures.entries ∙ keys-removed c.args.at c.args.order.now.entries c.requires
