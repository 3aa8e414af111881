use Rattle.std.proofs.Common.{rules, sym, ap, ◌∙◌}
use Rattle.std.proofs.lemmas.List.Sorted.{IsPartitionPoint-from_clause}
use Rattle.dg_flat.specs.Lookup.{with_id}
use Rattle.dg_flat.proofs.NodeSearch.{is_below, find_at_point, parts}
use Rattle.dg_flat.proofs.nodes.node_in.Goals as goal

pub returns : goal.returns
returns c =
    let points = IsPartitionPoint-from_clause (is_below c.args.node) c.args.nodes.now c.partition_point-place.result c.partition_point-place.ensures.partitioned (parts c.args.node c.args.nodes.now c.requires) (λ a r q k. search rules) in
    c.with_id.ensures ∙ ap (with_id c.args.node) c.at.ensures ∙ sym (find_at_point c.args.node c.args.nodes.now c.partition_point-place.result c.requires points)
