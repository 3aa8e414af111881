use Rattle.std.proofs.Common.{ap, drop, ◌∙◌}
use Rattle.dg_base.specs.Owned.{overs}
use Rattle.dg_basis.specs.NodeLists.{nodes_alone}
use Rattle.dg_basis.specs.Keys.{overs_after}
use Rattle.dg_basis.proofs.Reading.{overs-are}
use Rattle.dg_basis.proofs.basis.Basis.overs.Goals as goal

pub returns : goal.returns
returns c =
    c.in_ok-overs.ensures
    ∙ ap (λ n. overs_after c.args.node (drop n c.self.inside.overs)) c.position-start.ensures.value
    ∙ overs-are c.self.invariant c.args.node
    ∙ ap (λ ns. overs (nodes_alone ns) c.args.node) c.self.view_is
