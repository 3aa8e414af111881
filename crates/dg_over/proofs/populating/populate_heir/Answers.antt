use Rattle.std.proofs.Common.{◌≡◌, Some}
use Rattle.dg_base.specs.declared.graph.Origin.TheVariants as origin
use Rattle.dg_base.specs.Graph.{node_at, origin_at}
use Rattle.dg_laws.proofs.SoundOverrides.{MayOverride-lacking}
use Rattle.dg_over.proofs.HeirRounds.{over_at}
use Rattle.dg_over.proofs.populating.populate_heir.Goals as goal

pub populate_over-requires : goal.populate_over-requires
populate_over-requires g c =
    let is : origin_at c.args.graph.now c.args.heir ≡ Some (origin.Over c.in-Some-Over.root c.in-Some-Over.original) = cc in
    let x = over_at (node_at c.args.graph.now c.args.heir) c.in-Some-Over.root c.in-Some-Over.original is in
    MayOverride-lacking c.requires c.args.heir x.0 c.in-Some-Over.root c.in-Some-Over.original x.1 x.2 c.args.input
