use Rattle.std.proofs.Common.{◌≡◌, drop}
use Rattle.std.specs.List.{list_any}
use Rattle.dg_base.specs.Order.{is_end_among}
use Rattle.dg_reads.proofs.rounds.is_one_of.Given as goal

abbrev pub invariant-loop-end : goal.invariant-loop-end
invariant-loop-end l = list_any (is_end_among l.dirty) (drop l.end-index l.ends) ≡ list_any (is_end_among l.dirty) l.ends
