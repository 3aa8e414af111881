use Rattle.std.proofs.Common.{◌≡◌, drop, fold}
use Rattle.dg_over.specs.Met.{meet}
use Rattle.dg_over.proofs.met.Met.put_all.Given as goal

abbrev pub invariant-loop-node : goal.invariant-loop-node
invariant-loop-node l = fold meet l.self (drop l.node-index l.nodes) ≡ fold meet l.initial.self l.nodes
