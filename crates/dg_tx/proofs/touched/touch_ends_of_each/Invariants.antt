use Rattle.std.proofs.Common.{◌≡◌, ◌++◌, drop, flat_map}
use Rattle.dg_base.specs.Rule.{endpoints_at}
use Rattle.dg_tx.proofs.touched.touch_ends_of_each.Given as goal

abbrev pub invariant-loop-node : goal.invariant-loop-node
invariant-loop-node g l =
    l.touched.items ++ flat_map (endpoints_at g.S.Schema.tables l.graph) (drop l.node-index l.nodes)
    ≡ l.initial.touched.items ++ flat_map (endpoints_at g.S.Schema.tables l.graph) l.nodes
