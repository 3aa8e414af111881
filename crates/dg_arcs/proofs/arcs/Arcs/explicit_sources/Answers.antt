use Rattle.std.proofs.Common.{ap, drop, ◌∙◌}
use Rattle.dg_base.specs.Graph.{explicit_sources}
use Rattle.dg_arcs.specs.ArcLists.{arcs_alone}
use Rattle.dg_arcs.specs.Kept.{sources_after}
use Rattle.dg_arcs.proofs.Reading.{into-is}
use Rattle.dg_arcs.proofs.arcs.Arcs.explicit_sources.Goals as goal

pub returns : goal.returns
returns c =
    c.in_ok-sources.ensures
    ∙ ap (λ n. sources_after c.args.node c.args.input (drop n c.self.inside.targets)) c.position-start.ensures.value
    ∙ into-is c.self.invariant c.args.node c.args.input
    ∙ ap (λ as_. explicit_sources (arcs_alone as_) c.args.node c.args.input) c.self.view_is
