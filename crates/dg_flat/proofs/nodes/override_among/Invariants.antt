use Rattle.std.proofs.Common.{◌≡◌, drop, find}
use Rattle.dg_base.specs.Graph.{id_of, overrides}
use Rattle.dg_flat.proofs.nodes.override_among.Given as goal

abbrev pub invariant-loop-node : goal.invariant-loop-node
invariant-loop-node l = id_of (find (λ x. overrides l.root l.original x.origin) (drop l.node-index l.nodes)) ≡ id_of (find (λ x. overrides l.root l.original x.origin) l.nodes)
