use Rattle.std.proofs.Common.{◌≡◌, ◌++◌, drop, filter, flat_map}
use Rattle.dg_base.specs.Role.{cascades}
use Rattle.dg_base.specs.Owned.{owned_through}
use Rattle.dg_over.proofs.owned.add_owned.Given as goal

abbrev pub invariant-loop-label : goal.invariant-loop-label
invariant-loop-label g l =
    l.all.items ++ flat_map (owned_through l.graph l.node) (filter (λ i. cascades (g.S.Schema.tables.role l.kind i)) (drop l.label-index l.labels))
    ≡ l.initial.all.items ++ flat_map (owned_through l.graph l.node) (filter (λ i. cascades (g.S.Schema.tables.role l.kind i)) l.labels)
