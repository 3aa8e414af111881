use Rattle.std.proofs.Common.{◌-◌, length, slice_get, ap, ◌∙◌}
use Rattle.dg_cache.proofs.Laying.{held, last-is}
use Rattle.dg_cache.proofs.cache.Cache.last.Goals as goal

pub returns : goal.returns
returns c =
    let h = held c.self.invariant.0 c.self.view_is in
    c.last.ensures ∙ ap (λ z. slice_get z (length z - 1)) h.shown.recent ∙ last-is c.args.self.now.entries
