use Rattle.std.proofs.Common.{ap, ◌∙◌}
use Rattle.std.specs.Map.{keys_of}
use Rattle.dg_cache.proofs.ByUse.{keys-put}
use Rattle.dg_cache.proofs.recent.put_in.Goals as goal

pub returns-in-Ok-clause-ok : goal.returns-in-Ok-clause-ok
returns-in-Ok-clause-ok c = ap (λ o. keys_of o.entries) c.in-Ok.ensures.entries ∙ keys-put c.args.at c.args.order.now c.requires.some c.requires.once c.requires.short
