use Rattle.std.proofs.Common.{◌++◌, List, sym, ap, ◌∙◌}
use Rattle.dg_base.specs.declared.ids.Endpoint.{Endpoint}
use Rattle.dg_base.specs.Graph.{Graph}
use Rattle.dg_base.specs.Rule.{endpoints_at}
use Rattle.dg_base.specs.Touched.{nodes_from, touched_nodes}
use Rattle.dg_laws.proofs.SoundNodes.{with_plain-sound}
use Rattle.dg_tx.proofs.UnreadNodes.{touched_new}
use Rattle.dg_tx.proofs.nodes.make.Goals as goal

pub put_node-requires : goal.put_node-requires
put_node-requires g c = with_plain-sound c.requires.sound (record { 0 = c.args.work.now.next }) c.args.kind c.requires.below c.requires.some c.if-work-gt-MAX_NODES.false

pub returns-clause-touched : goal.returns-clause-touched
returns-clause-touched g c =
    let old : List Endpoint = c.args.work.now.touched.items in
    c.in_ok-append.ensures.items
    ∙ ap (λ (es : List Endpoint). old ++ es) (
    c.in_ok-endpoints_at.ensures
    ∙ ap (λ (h : Graph). endpoints_at g.S.Schema.tables h (record { 0 = c.args.work.now.next })) c.in_ok-put_node.ensures
    ∙ sym (touched_new c.requires c.if-work-gt-MAX_NODES.false c.args.kind)
    ∙ ap (λ (h : Graph). touched_nodes g.S.Schema.tables h (nodes_from c.args.work.now.next h)) (sym c.in_ok-put_node.ensures))
