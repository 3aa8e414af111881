use Rattle.std.proofs.Common.{◌≡◌, ◌∙◌, [], fold, flat_map, arith}
use Rattle.std.proofs.lemmas.Grind.{common_steps}
use Rattle.dg_base.specs.Owned.{cascade_tree}
use Rattle.dg_over.specs.Met.{meet}
use Rattle.dg_over.proofs.FirstMet.{meets-firsts}
use Rattle.dg_over.proofs.lacking.members.Goals as goal

pub returns : goal.returns
returns g c =
    let so_far : c.loop-source.met ≡ fold meet [] (flat_map (λ s. cascade_tree g.S.Schema.tables c.args.graph.now s.node) c.args.sources.now) = grind (arith, common_steps) in
    so_far ∙ meets-firsts (flat_map (λ s. cascade_tree g.S.Schema.tables c.args.graph.now s.node) c.args.sources.now)
