use Rattle.dg_laws.proofs.Orders.{ordered-from_sort_dedup}
use Rattle.dg_laws.proofs.Ids.{nodes_rank, nodes_compare}
use Rattle.dg_over.proofs.ordered.in_order.Goals as goal

pub returns : goal.returns
returns c =
    ordered-from_sort_dedup nodes_rank nodes_compare c.args.nodes.items c.sort_unstable.new.self.items c.dedup.new.self.items c.sort_unstable.ensures.permutation
    c.sort_unstable.ensures.sorted c.dedup.ensures.filtered
