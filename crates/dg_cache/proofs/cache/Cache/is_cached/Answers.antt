use Rattle.dg_cache.proofs.Laying.{held, held-cached}
use Rattle.dg_cache.proofs.cache.Cache.is_cached.Goals as goal

pub returns : goal.returns
returns c = held-cached (held c.self.invariant.0 c.self.view_is)
