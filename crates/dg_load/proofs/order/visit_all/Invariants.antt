use Rattle.std.proofs.Common.{◌≡◌, drop, fold, length}
use Rattle.dg_load.specs.Order.{visit}
use Rattle.dg_load.proofs.order.visit_all.Given as goal

abbrev pub invariant-loop-source : goal.invariant-loop-source
invariant-loop-source l =
    fold (λ w s. visit (length l.sources) l.sources l.places w s.path) l.walk (drop l.source-index l.sources)
    ≡ fold (λ w s. visit (length l.sources) l.sources l.places w s.path) l.initial.walk l.sources
