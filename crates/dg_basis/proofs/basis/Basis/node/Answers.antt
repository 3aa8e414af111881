use Rattle.std.proofs.Common.{ap, option_map, ◌∙◌}
use Rattle.dg_base.specs.Graph.{node_at}
use Rattle.dg_basis.specs.declared.node_rec.NodeRec.{NodeRec}
use Rattle.dg_basis.specs.NodeLists.{nodes_alone, node_of}
use Rattle.dg_basis.proofs.Listing.{listed-at}
use Rattle.dg_basis.proofs.basis.Basis.node.Goals as goal

pub returns : goal.returns
returns c =
    ap (option_map (λ (r : NodeRec). node_of (c.args.node, r))) c.get.ensures
    ∙ listed-at c.args.node c.self.inside.nodes
    ∙ ap (λ ns. node_at (nodes_alone ns) c.args.node) c.self.view_is
