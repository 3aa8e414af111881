use Rattle.std.proofs.Common.{◌≡◌, take}
use Rattle.dg_cache.specs.Entries.{put_all}
use Rattle.dg_cache.specs.Caches.{holding}
use Rattle.dg_desk.proofs.acts.put_all.Given as goal

abbrev pub invariant-loop-done : goal.invariant-loop-done
invariant-loop-done l = l.cache ≡ holding l.initial.cache (put_all l.initial.cache.capacity (take l.done l.entries) l.initial.cache.entries)
