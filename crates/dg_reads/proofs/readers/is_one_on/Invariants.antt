use Rattle.std.proofs.Common.{◌≡◌, drop}
use Rattle.std.specs.List.{list_any}
use Rattle.dg_base.specs.Order.{is_node_among}
use Rattle.dg_reads.proofs.readers.is_one_on.Given as goal

abbrev pub invariant-loop-end : goal.invariant-loop-end
invariant-loop-end l = list_any (λ s. is_node_among l.nodes s.node) (drop l.end-index l.ends) ≡ list_any (λ s. is_node_among l.nodes s.node) l.ends
