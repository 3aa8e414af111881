use Rattle.std.proofs.Common.{◌≡◌, ◌++◌, drop, flat_map}
use Rattle.dg_base.specs.Touched.{touched_value}
use Rattle.dg_tx.proofs.touched.touch_value_of_each.Given as goal

abbrev pub invariant-loop-node : goal.invariant-loop-node
invariant-loop-node g l =
    l.touched.items ++ flat_map (touched_value g.S.Schema.tables l.graph l.label) (drop l.node-index l.nodes)
    ≡ l.initial.touched.items ++ flat_map (touched_value g.S.Schema.tables l.graph l.label) l.nodes
