use Rattle.std.proofs.Common.{◌≡◌, ◌++◌, drop, flat_map}
use Rattle.dg_base.specs.Chain.{kind_of}
use Rattle.dg_base.specs.Rule.{ends_of}
use Rattle.dg_base.specs.Touched.{outputs}
use Rattle.dg_tx.proofs.touched.touch_outputs_of_each.Given as goal

abbrev pub invariant-loop-node : goal.invariant-loop-node
invariant-loop-node g l =
    l.touched.items ++ flat_map (λ h. ends_of h (outputs g.S.Schema.tables (kind_of l.graph h))) (drop l.node-index l.nodes)
    ≡ l.initial.touched.items ++ flat_map (λ h. ends_of h (outputs g.S.Schema.tables (kind_of l.graph h))) l.nodes
