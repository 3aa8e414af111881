use Rattle.std.proofs.Common.{◌∙◌, refl}
use Rattle.dg_cache.specs.Caches.{holding}
use Rattle.dg_cache.specs.Entries.{to_front}
use Rattle.dg_cache.specs.Layout.{ends_by_use, entries_from}
use Rattle.dg_cache.proofs.Laying.{IsHeld, held, held-as, held-layout, held-placed, held-touched, held-view}
use Rattle.dg_cache.proofs.cache.Cache.touch.Goals as goal

made : (c : goal.After-touch) → IsHeld c.self.inside.capacity (ends_by_use c.touch.new.recency) (entries_from c.self.inside.values) (holding c.args.self.now (to_front c.args.at c.args.self.now.entries))
made c = held-as (held-touched c.args.at (held c.self.invariant.0 c.self.view_is)) c.touch.ensures.ends refl

pub touch-requires : goal.touch-requires
touch-requires c = c.self.invariant.0.once

pub invariant_of-self : goal.invariant_of-self
invariant_of-self c = (held-layout (made c), c.touch.ensures.most c.self.inside.capacity ∙ c.self.invariant.1)

pub returns-clause-there : goal.returns-clause-there
returns-clause-there c = c.touch.ensures.there ∙ held-placed (held c.self.invariant.0 c.self.view_is) c.args.at

pub returns-clause-new : goal.returns-clause-new
returns-clause-new c = held-view (made c)
