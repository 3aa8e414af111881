use Rattle.std.proofs.Common.{◌≡◌, ◌+◌, drop}
use Rattle.dg_base.specs.Progress.{IsReady}
use Rattle.dg_base.specs.Transact.{applied_from}
use Rattle.dg_tx.specs.Outcome.{progress}
use Rattle.dg_tx.proofs.transaction.do_all.Given as goal

abbrev pub invariant-loop-step : goal.invariant-loop-step
invariant-loop-step g l = record {
  ready : IsReady g.S.Schema.tables (progress l.work);
  rest : applied_from g.S.Schema.tables (drop l.step-index l.steps) (l.done + 1) (progress l.work) l.work.touched.items
      ≡ applied_from g.S.Schema.tables l.steps 1 (progress l.initial.work) l.initial.work.touched.items;
}
