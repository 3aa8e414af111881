use Rattle.std.proofs.Common.{◌∷◌, ap, ◌∙◌}
use Rattle.dg_base.specs.Order.{ends_rise}
use Rattle.dg_cache.specs.Caches.{holding}
use Rattle.dg_cache.specs.Entries.{ends_of, in_order, others, put_entry}
use Rattle.dg_cache.specs.Layout.{ends_by_use, entries_from, leaving}
use Rattle.dg_cache.proofs.Laying.{IsHeld, held, held-as, held-layout, held-put, held-view, laid_out-rise}
use Rattle.dg_cache.proofs.cache.Cache.put.Goals as goal

pub put-requires : goal.put-requires
put-requires c = ap (λ z. ends_rise (ends_of (entries_from z))) c.in_ok-changed.ensures ∙ laid_out-rise c.self.invariant.0

made : (c : goal.Joined-self-changed) →
    IsHeld c.self.inside.capacity (ends_by_use c.put_front.new.recency) (entries_from c.put.new.values)
    (holding c.args.self.now (put_entry c.args.self.now.capacity (record { at = c.args.at; value = c.args.value }) c.args.self.now.entries))
made c =
    held-as (held-put (record { at = c.args.at; value = c.args.value }) c.dropped_for-last.result (held c.self.invariant.0 c.self.view_is) c.dropped_for-last.ensures)
    c.in_ok-put_front.ensures.ok
    (c.in_ok-put.ensures ∙ ap (λ z. in_order (record { at = c.args.at; value = c.args.value } ∷ others c.args.at (leaving c.dropped_for-last.result (entries_from z)))) c.in_ok-changed.ensures)

pub invariant_of-self-2 : goal.invariant_of-self-2
invariant_of-self-2 c = (held-layout (made c), c.in_ok-put_front.ensures.most)

pub returns-clause-ok : goal.returns-clause-ok
returns-clause-ok c = held-view (made c)
