use Rattle.std.proofs.Common.{◌≡◌, ℕ, drop, filter, not, IsTrue}
use Rattle.dg_base.specs.Order.{is_end_among}
use Rattle.dg_cache.specs.Entries.{ends_once}
use Rattle.dg_cache.specs.Layout.{ends_by_use, most_of}
use Rattle.dg_cache.proofs.recent.leave_out_all.Given as goal

abbrev pub invariant-loop-end : goal.invariant-loop-end
invariant-loop-end l =
    (filter (λ e. not (is_end_among (drop l.end-index l.gone) e)) (ends_by_use l.recency) ≡ filter (λ e. not (is_end_among l.gone e)) (ends_by_use l.initial.recency))
    × IsTrue (ends_once (ends_by_use l.recency)) × ((c : ℕ) → most_of c l.recency ≡ most_of c l.initial.recency)
