use Rattle.std.proofs.Common.{◌≡◌, ◌++◌, drop, flat_map}
use Rattle.dg_base.specs.Touched.{readers_of_input}
use Rattle.dg_tx.proofs.touched.touch_readers_of_each.Given as goal

abbrev pub invariant-loop-node : goal.invariant-loop-node
invariant-loop-node g l =
    l.touched.items ++ flat_map (readers_of_input g.S.Schema.tables l.graph l.input) (drop l.node-index l.nodes)
    ≡ l.initial.touched.items ++ flat_map (readers_of_input g.S.Schema.tables l.graph l.input) l.nodes
