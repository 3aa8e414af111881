use Rattle.std.proofs.Common.{sym, ap, ◌∙◌}
use Rattle.dg_cache.specs.Caches.{holding}
use Rattle.dg_cache.specs.Entries.{ends_of, ends_once, others}
use Rattle.dg_cache.specs.Layout.{ends_by_use, entries_from}
use Rattle.dg_cache.proofs.Ends.{outside_one}
use Rattle.dg_cache.proofs.Listing.{others_same}
use Rattle.dg_cache.proofs.Laying.{IsHeld, held, held-as, held-kept, held-layout, held-once, held-view}
use Rattle.dg_cache.proofs.cache.Cache.take_out.Goals as goal

pub returns-then-not-has-clause-there : goal.returns-then-not-has-clause-there
returns-then-not-has-clause-there c = sym c.if-not-has.true ∙ c.has.ensures

pub returns-then-not-has-clause-ok : goal.returns-then-not-has-clause-ok
returns-then-not-has-clause-ok c =
    let new = sym c.has.ensures ∙ c.if-not-has.true in
    sym (ap (holding c.args.self.now) (others_same c.args.at c.args.self.now.entries new))

pub take_out-requires : goal.take_out-requires
take_out-requires c = ap (λ z. ends_once (ends_of (entries_from z))) c.in_ok-rest.ensures ∙ held-once c.self.invariant.0

made : (c : goal.Joined-self-rest) → IsHeld c.self.inside.capacity (ends_by_use c.leave_out.new.recency) (entries_from c.take_out.new.values) (holding c.args.self.now (others c.args.at c.args.self.now.entries))
made c =
    held-as (held-kept (outside_one c.args.at) (held c.self.invariant.0 c.self.view_is)) c.leave_out.ensures.ends
    (c.in_ok-take_out.ensures ∙ ap (λ z. others c.args.at (entries_from z)) c.in_ok-rest.ensures)

pub invariant_of-self : goal.invariant_of-self
invariant_of-self c = (held-layout (made c), c.leave_out.ensures.most c.self.inside.capacity ∙ c.self.invariant.1)

pub returns-clause-ok : goal.returns-clause-ok
returns-clause-ok c = held-view (made c)
