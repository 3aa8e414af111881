use Rattle.std.proofs.Common.{◌≡◌, ◌++◌}
use Rattle.dg_tx.specs.Ids.{ids_between}
use Rattle.dg_tx.proofs.touched.ids_between.Given as goal

abbrev pub invariant-loop-id : goal.invariant-loop-id
invariant-loop-id l = l.nodes.items ++ ids_between l.id l.end ≡ ids_between l.first l.end
