use Rattle.std.proofs.Common.{◌≡◌, List, IfOk, flat_map, subst, ap, ◌∙◌}
use Rattle.dg_base.specs.declared.ids.Endpoint.{Endpoint}
use Rattle.dg_base.specs.Rule.{endpoints_at}
use Rattle.dg_reads.proofs.Ids.{flat_map-ids}
use Rattle.dg_reads.proofs.ends.endpoints.Goals as goal

pub returns : goal.returns
returns g c =
    let t = g.S.Schema.tables in
    let graph = g.G.CoreReads.graph c.args.graph.now in
    subst (λ (w : List Endpoint). IfOk c.endpoints_of.result (λ v. v.items ≡ w))
    (ap (flat_map (endpoints_at t graph)) (c.deref.ensures.value ∙ c.in_ok-ids.ensures) ∙ flat_map-ids (endpoints_at t graph) graph.nodes)
    c.endpoints_of.ensures
