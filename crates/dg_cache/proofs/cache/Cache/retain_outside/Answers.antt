use Rattle.std.proofs.Common.{not, ap, ◌∙◌}
use Rattle.dg_base.specs.Order.{is_end_among}
use Rattle.dg_cache.specs.Caches.{holding}
use Rattle.dg_cache.specs.Entries.{ends_of, ends_once, without}
use Rattle.dg_cache.specs.Layout.{ends_by_use, entries_from}
use Rattle.dg_cache.proofs.Laying.{IsHeld, held, held-as, held-kept, held-layout, held-once, held-view}
use Rattle.dg_cache.proofs.cache.Cache.retain_outside.Goals as goal

pub take_out_all-requires : goal.take_out_all-requires
take_out_all-requires c = ap (λ z. ends_once (ends_of (entries_from z))) c.in_ok-clean.ensures ∙ held-once c.self.invariant.0

made : (c : goal.Joined-self-clean) → IsHeld c.self.inside.capacity (ends_by_use c.leave_out_all.new.recency) (entries_from c.take_out_all.new.values) (holding c.args.self.now (without c.args.dirty.now c.args.self.now.entries))
made c =
    held-as (held-kept (λ e. not (is_end_among c.args.dirty.now e)) (held c.self.invariant.0 c.self.view_is)) c.leave_out_all.ensures.ends
    (c.in_ok-take_out_all.ensures ∙ ap (λ z. without c.args.dirty.now (entries_from z)) c.in_ok-clean.ensures)

pub invariant_of-self : goal.invariant_of-self
invariant_of-self c = (held-layout (made c), c.leave_out_all.ensures.most c.self.inside.capacity ∙ c.self.invariant.1)

pub returns-clause-ok : goal.returns-clause-ok
returns-clause-ok c = held-view (made c)
