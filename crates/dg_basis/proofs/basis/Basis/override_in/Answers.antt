use Rattle.std.proofs.Common.{ap, ◌∙◌}
use Rattle.dg_base.specs.Graph.{override_in}
use Rattle.dg_basis.specs.NodeLists.{nodes_alone}
use Rattle.dg_basis.specs.Keys.{place_at}
use Rattle.dg_basis.proofs.Reading.{override-is}
use Rattle.dg_basis.proofs.basis.Basis.override_in.Goals as goal

pub returns : goal.returns
returns c =
    c.place_at.ensures
    ∙ ap (place_at c.args.root c.args.original) c.first_from.ensures
    ∙ override-is c.self.invariant c.args.root c.args.original
    ∙ ap (λ ns. override_in (nodes_alone ns) c.args.root c.args.original) c.self.view_is
