use Rattle.std.proofs.Common.{◌∙◌}
use Rattle.dg_cache.proofs.Laying.{held, held-length}
use Rattle.dg_cache.proofs.cache.Cache.len.Goals as goal

pub returns : goal.returns
returns c = c.len.ensures ∙ held-length (held c.self.invariant.0 c.self.view_is)
