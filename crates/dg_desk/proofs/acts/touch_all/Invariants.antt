use Rattle.std.proofs.Common.{◌≡◌, drop}
use Rattle.dg_cache.specs.Entries.{touched}
use Rattle.dg_cache.specs.Caches.{holding}
use Rattle.dg_desk.proofs.acts.touch_all.Given as goal

abbrev pub invariant-loop-hit : goal.invariant-loop-hit
invariant-loop-hit l = holding l.cache (touched (drop l.hit-index l.hits) l.cache.entries) ≡ holding l.initial.cache (touched l.hits l.initial.cache.entries)
