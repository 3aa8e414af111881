use Rattle.std.proofs.Common.{◌≡◌, ◌≤◌, length}
use Rattle.dg_cache.specs.Caches.{evicted, holding}
use Rattle.dg_cache.proofs.cache.Cache.evict.Given as goal

abbrev pub invariant-loop-gone : goal.invariant-loop-gone
invariant-loop-gone l = (l.self ≡ holding l.initial.self (evicted l.gone l.initial.self.entries)) × (l.gone ≤ length l.initial.self.entries)
