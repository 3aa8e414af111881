use Rattle.std.proofs.Common.{◌≡◌, List, [], drop}
use Rattle.dg_base.specs.declared.ids.NodeId.{NodeId}
use Rattle.dg_base.specs.Progress.{IsReady}
use Rattle.dg_base.specs.Populate.{populate_all}
use Rattle.dg_over.specs.Makes.{progress_of}
use Rattle.dg_over.proofs.populating.populate_all.Given as goal

abbrev pub invariant-loop-heir : goal.invariant-loop-heir
invariant-loop-heir g l = record {
  ready : IsReady g.S.Schema.tables (progress_of l.graph l.id []);
  so_far : (made : List NodeId) →
      populate_all g.S.Schema.tables l.input (drop l.heir-index l.heirs) (progress_of l.graph l.id made)
      ≡ populate_all g.S.Schema.tables l.input l.heirs (progress_of l.initial.graph l.next made);
}
