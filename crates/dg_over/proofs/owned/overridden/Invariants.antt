use Rattle.std.proofs.Common.{◌≡◌, ◌++◌, drop, filter_map}
use Rattle.dg_base.specs.Graph.{override_in}
use Rattle.dg_over.proofs.owned.overridden.Given as goal

abbrev pub invariant-loop-source : goal.invariant-loop-source
invariant-loop-source g l =
    l.all.items ++ filter_map (λ s. override_in l.graph l.root s.node) (drop l.source-index l.sources)
    ≡ filter_map (λ s. override_in l.graph l.root s.node) l.sources
