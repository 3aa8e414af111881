use Rattle.std.proofs.Common.{◌≡◌, drop, fold}
use Rattle.dg_load.specs.Collections.{fill_at}
use Rattle.dg_load.proofs.state.Load.fill_all.Given as goal

abbrev pub invariant-loop-at : goal.invariant-loop-at
invariant-loop-at l =
    fold (fill_at l.listed l.sources) l.self (drop l.at-index l.order) ≡ fold (fill_at l.listed l.sources) l.initial.self l.order
