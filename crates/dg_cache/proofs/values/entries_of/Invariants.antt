use Rattle.std.proofs.Common.{◌≡◌, take}
use Rattle.dg_cache.specs.Layout.{entries_from}
use Rattle.dg_cache.proofs.values.entries_of.Given as goal

abbrev pub invariant-loop-place : goal.invariant-loop-place
invariant-loop-place l = l.entries.items ≡ take l.place (entries_from l.values)
