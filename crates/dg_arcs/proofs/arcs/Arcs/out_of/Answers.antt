use Rattle.std.proofs.Common.{ap, drop, ◌∙◌}
use Rattle.dg_arcs.specs.ArcLists.{arcs_out_of}
use Rattle.dg_arcs.specs.Kept.{arcs_after}
use Rattle.dg_arcs.proofs.Reading.{out_of-is}
use Rattle.dg_arcs.proofs.arcs.Arcs.out_of.Goals as goal

pub returns : goal.returns
returns c =
    c.in_ok-arcs.ensures
    ∙ ap (λ n. arcs_after c.args.node (drop n c.self.inside.sources)) c.position-start.ensures.value
    ∙ out_of-is c.self.invariant c.args.node
    ∙ ap (λ as_. arcs_out_of as_ c.args.node) c.self.view_is
