use Rattle.std.proofs.Common.{sym, ap, ◌∙◌}
use Rattle.dg_cache.specs.Entries.{pairs_of}
use Rattle.dg_cache.proofs.Pairs.{pairs-back}
use Rattle.dg_cache.proofs.Laying.{held}
use Rattle.dg_cache.proofs.cache.Cache.values.Goals as goal

pub returns : goal.returns
returns c = let h = held c.self.invariant.0 c.self.view_is in sym (pairs-back c.self.inside.values) ∙ ap pairs_of h.shown.ordered
