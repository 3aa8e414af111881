use Rattle.std.proofs.Common.{◌≡◌, List, [], drop}
use Rattle.dg_base.specs.declared.ids.NodeId.{NodeId}
use Rattle.dg_base.specs.Populate.{override_all, MayOverride}
use Rattle.dg_over.specs.Makes.{progress_of}
use Rattle.dg_over.proofs.overriding.override_all.Given as goal

abbrev pub invariant-loop-node : goal.invariant-loop-node
invariant-loop-node g l = record {
  may : MayOverride g.S.Schema.tables (progress_of l.graph l.id []) l.root (drop l.node-index l.nodes);
  so_far : (made : List NodeId) →
      override_all l.root (drop l.node-index l.nodes) (progress_of l.graph l.id made)
      ≡ override_all l.root l.nodes (progress_of l.initial.graph l.next made);
}
