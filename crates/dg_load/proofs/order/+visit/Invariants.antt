use Rattle.std.proofs.Common.{◌≡◌, ◌+◌, ◌*◌, drop, fold}
use Rattle.dg_load.specs.Order.{visit}
use Rattle.dg_load.proofs.order.+visit.Given as goal

abbrev pub decreases-visit : goal.decreases-visit
decreases-visit l = 2 * l.levels

abbrev pub decreases-visit_each : goal.decreases-visit_each
decreases-visit_each l = 2 * l.levels + 1

abbrev pub invariant-visit_each-loop-desc : goal.invariant-visit_each-loop-desc
invariant-visit_each-loop-desc l =
    fold (λ w d. visit l.levels l.sources l.places w d.collection) l.walk (drop l.desc-index l.descs)
    ≡ fold (λ w d. visit l.levels l.sources l.places w d.collection) l.initial.walk l.descs
