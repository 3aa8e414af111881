use Rattle.std.proofs.Common.{option_map, ap, ◌∙◌}
use Rattle.dg_base.specs.Graph.{has_node}
use Rattle.dg_basis.specs.declared.node_rec.NodeRec.{NodeRec}
use Rattle.dg_basis.specs.NodeLists.{nodes_alone, without_node}
use Rattle.dg_basis.proofs.Listing.{listed, listed-without, listed-has}
use Rattle.dg_basis.proofs.Keeping.{kept-without}
use Rattle.dg_basis.proofs.basis.Basis.take_out.Goals as goal

pub invariant_of-self-2 : goal.invariant_of-self-2
invariant_of-self-2 c =
    rw (c.in_ok-there.ensures.ok, c.in_ok-take_key.ensures, c.in_ok-places.ensures, c.place_key.ensures, c.in_ok-take_key-2.ensures, c.in_ok-overs.ensures, c.over_key.ensures)
    (kept-without c.self.invariant c.args.node c.origin_of-before.result (c.origin_of-before.ensures ∙ ap (option_map (λ (r : NodeRec). r.origin)) c.get.ensures))

pub returns-clause-ok : goal.returns-clause-ok
returns-clause-ok c = ap listed c.in_ok-there.ensures.ok ∙ listed-without c.args.node c.self.inside.nodes c.self.invariant.nodes_rise ∙ ap (without_node c.args.node) c.self.view_is

pub returns-clause-there : goal.returns-clause-there
returns-clause-there c = c.in_ok-there.ensures.there ∙ listed-has c.args.node c.self.inside.nodes ∙ ap (λ ns. has_node (nodes_alone ns) c.args.node) c.self.view_is
