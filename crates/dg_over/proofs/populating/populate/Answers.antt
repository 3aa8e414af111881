use Rattle.std.proofs.Common.{◌≡◌, ◌∙◌, List, filter, not, ap, subst}
use Rattle.dg_base.specs.declared.ids.NodeId.{NodeId}
use Rattle.dg_base.specs.Same.{same_node}
use Rattle.dg_base.specs.Chain.{heirs}
use Rattle.dg_base.specs.Populate.{populate_all}
use Rattle.dg_over.specs.Makes.{Makes}
use Rattle.dg_over.proofs.populating.populate.Goals as goal

pub returns : goal.returns
returns g c =
    let others : c.deref-2.result.now ≡ filter (λ h. not (same_node h c.args.target)) (heirs c.args.graph.now c.args.target) =
    c.deref-2.ensures.value ∙ c.in_ok-heirs-2.ensures ∙ ap (filter (λ h. not (same_node h c.args.target))) (c.deref.ensures.value ∙ c.in_ok-heirs.ensures) in
    subst (λ (hs : List NodeId). Makes (populate_all g.S.Schema.tables c.args.input hs) c.args.graph.now c.args.next c.populate_all.new.graph c.populate_all.result) others
    c.populate_all.ensures
