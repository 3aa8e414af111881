use Rattle.std.proofs.Common.{◌≡◌, drop, IsTrue}
use Rattle.dg_cache.specs.Entries.{ends_of, ends_once, without}
use Rattle.dg_cache.specs.Layout.{entries_from}
use Rattle.dg_cache.proofs.values.take_out_all.Given as goal

abbrev pub invariant-loop-end : goal.invariant-loop-end
invariant-loop-end l =
    (without (drop l.end-index l.gone) (entries_from l.values) ≡ without l.gone (entries_from l.initial.values)) × IsTrue (ends_once (ends_of (entries_from l.values)))
