use Rattle.dg_laws.proofs.Orders.{ordered-from_sort_dedup}
use Rattle.dg_laws.proofs.Ends.{ends_rank, ends_compare}
use Rattle.dg_succ.proofs.closure.in_order.Goals as goal

pub returns : goal.returns
returns c =
    ordered-from_sort_dedup ends_rank ends_compare c.args.ends.items c.sort_unstable.new.self.items c.dedup.new.self.items c.sort_unstable.ensures.permutation
    c.sort_unstable.ensures.sorted c.dedup.ensures.filtered
