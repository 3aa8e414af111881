use Rattle.std.proofs.Common.{◌≡◌, [], drop, flat_map, fold}
use Rattle.dg_base.specs.Owned.{cascade_tree}
use Rattle.dg_over.specs.Met.{meet}
use Rattle.dg_over.proofs.lacking.members.Given as goal

abbrev pub invariant-loop-source : goal.invariant-loop-source
invariant-loop-source g l =
    fold meet l.met (flat_map (λ s. cascade_tree g.S.Schema.tables l.graph s.node) (drop l.source-index l.sources))
    ≡ fold meet [] (flat_map (λ s. cascade_tree g.S.Schema.tables l.graph s.node) l.sources)
