use Rattle.std.proofs.Common.{◌≡◌, List, IfOk, flat_map, subst, ap, ◌∙◌}
use Rattle.dg_base.specs.declared.ids.NodeId.{NodeId}
use Rattle.dg_base.specs.declared.ids.Endpoint.{Endpoint}
use Rattle.dg_base.specs.Touched.{is_fed_by, is_input_arg, outputs_reading}
use Rattle.dg_base.specs.Order.{is_node_among}
use Rattle.dg_laws.proofs.Ids.{nodes_rank}
use Rattle.dg_laws.proofs.Orders.{ordered-among}
use Rattle.dg_reads.proofs.Ids.{flat_map-ids}
use Rattle.dg_reads.proofs.ReadersOfNodes.{readers-same}
use Rattle.dg_reads.proofs.readers.readers_of_nodes.Goals as goal

pub returns : goal.returns
returns g c =
    let t = g.S.Schema.tables in
    let graph = g.G.CoreReads.graph c.args.graph.now in
    let fed : NodeId → List Endpoint = λ n. outputs_reading t graph (is_input_arg (is_fed_by graph c.in_ok-of.field-0 n)) n in
    subst (λ (w : List Endpoint). IfOk c.all_reading.result (λ v. v.items ≡ w))
    (ap (flat_map fed) (c.deref.ensures.value ∙ c.in_ok-ids.ensures)
    ∙ flat_map-ids fed graph.nodes
    ∙ readers-same t graph c.in_ok-of.field-0 c.args.nodes.now (λ n. ap (λ (ns : List NodeId). is_node_among ns n) c.in_ok-of.ensures ∙ ordered-among nodes_rank c.args.nodes.now n) graph.nodes)
    c.all_reading.ensures
