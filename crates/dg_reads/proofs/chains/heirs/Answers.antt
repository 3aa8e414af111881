use Rattle.std.proofs.Common.{◌≡◌, List, IfOk, filter, subst, ap, ◌∙◌}
use Rattle.dg_base.specs.declared.ids.NodeId.{NodeId}
use Rattle.dg_base.specs.Chain.{chain, holds}
use Rattle.dg_reads.proofs.Ids.{filter-ids}
use Rattle.dg_reads.proofs.chains.heirs.Goals as goal

pub returns : goal.returns
returns g c =
    let graph = g.G.CoreReads.graph c.args.graph.now in
    subst (λ (w : List NodeId). IfOk c.heirs_among.result (λ v. v.items ≡ w))
    (ap (filter (λ m. holds (chain graph m) c.args.node)) (c.deref.ensures.value ∙ c.in_ok-ids.ensures) ∙ filter-ids (λ m. holds (chain graph m) c.args.node) graph.nodes)
    c.heirs_among.ensures
