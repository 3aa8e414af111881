use Rattle.std.proofs.Common.{rules}
use Rattle.std.proofs.lemmas.List.Sorted.{IsPartitionPoint-from_clause}
use Rattle.dg_flat.proofs.NodeSearch.{is_below, parts, at_point, point_within}
use Rattle.dg_flat.proofs.nodes.place_in.Goals as goal

pub returns-clause-at : goal.returns-clause-at
returns-clause-at c =
    let points = IsPartitionPoint-from_clause (is_below c.args.node) c.args.nodes.now c.partition_point.result c.partition_point.ensures.partitioned (parts c.args.node c.args.nodes.now c.requires.rise) (λ a r q k. search rules) in
    at_point c.args.node c.args.nodes.now c.partition_point.result c.requires.rise points c.requires.there

pub returns-clause-within : goal.returns-clause-within
returns-clause-within c =
    let points = IsPartitionPoint-from_clause (is_below c.args.node) c.args.nodes.now c.partition_point.result c.partition_point.ensures.partitioned (parts c.args.node c.args.nodes.now c.requires.rise) (λ a r q k. search rules) in
    point_within c.args.node c.args.nodes.now c.partition_point.result c.requires.rise points c.requires.there
