use Rattle.std.proofs.Common.{ap, ◌∙◌}
use Rattle.dg_base.specs.Order.{ends_rise}
use Rattle.dg_cache.specs.Entries.{ends_of}
use Rattle.dg_cache.specs.Layout.{entries_from}
use Rattle.dg_cache.proofs.Laying.{held, laid_out-rise}
use Rattle.dg_cache.proofs.cache.Cache.snapshot.Goals as goal

pub of-requires : goal.of-requires
of-requires c = ap (λ z. ends_rise (ends_of (entries_from z))) c.in_ok-values.ensures ∙ laid_out-rise c.self.invariant.0

pub returns : goal.returns
returns c = let h = held c.self.invariant.0 c.self.view_is in c.of.ensures ∙ ap entries_from c.in_ok-values.ensures ∙ h.shown.ordered
