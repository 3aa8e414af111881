use Rattle.std.proofs.Common.{◌≡◌, length, nat_lt, sym, ap, ◌∙◌, [], lt-ltb}
use Rattle.dg_cache.specs.Caches.{evicted, holding}
use Rattle.dg_cache.proofs.Laying.{evicted-one, last-none, last-long}
use Rattle.dg_cache.proofs.cache.Cache.drop_last.Goals as goal

empty : (c : goal.In_default) → c.args.self.now.entries ≡ []
empty c = last-none c.args.self.now.entries (sym c.last.ensures ∙ c.in_default.is)

pub returns-in_default-clause-some : goal.returns-in_default-clause-some
returns-in_default-clause-some c = sym (ap (λ z. nat_lt 0 (length z)) (empty c))

pub returns-in_default-clause-ok : goal.returns-in_default-clause-ok
returns-in_default-clause-ok c =
    ap (holding c.args.self.now) (empty c) ∙ sym (ap (λ z. holding c.args.self.now (evicted 1 z)) (empty c))

pub returns-clause-ok : goal.returns-clause-ok
returns-clause-ok c =
    c.in_ok-take_out.ensures.ok ∙ ap (holding c.args.self.now) (evicted-one c.args.self.now.entries c.in-Some.last c.is_cached.ensures.once (sym c.last.ensures ∙ c.in-Some.is))

pub returns-clause-some : goal.returns-clause-some
returns-clause-some c = sym (lt-ltb 0 (length c.args.self.now.entries) (last-long c.args.self.now.entries c.in-Some.last (sym c.last.ensures ∙ c.in-Some.is)))
