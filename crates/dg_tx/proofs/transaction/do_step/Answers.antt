use Rattle.std.proofs.Common.{◌≡◌, Option, Some, None, Result, Ok, sym, ap, ◌∙◌, subst}
use Rattle.dg_base.specs.declared.ids.NodeId.{NodeId}
use Rattle.dg_base.specs.declared.step.TxCode.{TxCode}
use Rattle.dg_base.specs.Refusal.{Gives}
use Rattle.dg_base.specs.Progress.{Progress}
use Rattle.dg_base.specs.Steps.{delete_step, step_of}
use Rattle.dg_tx.specs.Outcome.{progress, found}
use Rattle.dg_tx.proofs.transaction.do_step.Goals as goal

found-is : (o : Option NodeId) (n : NodeId) → found o ≡ Ok n → o ≡ Some n
found-is None n e = cc
found-is (Some m) n e = cc

pub returns-in_ok-node-in-Delete-clause-graph : goal.returns-in_ok-node-in-Delete-clause-graph
returns-in_ok-node-in-Delete-clause-graph g c =
    let p : Progress = progress c.args.work.now in
    subst (λ (r : Result Progress TxCode). Gives (λ _. progress c.delete.new.work) c.delete.result r)
    (sym (ap (step_of g.S.Schema.tables p) c.in-Delete.is ∙ ap (delete_step g.S.Schema.tables p) (found-is _ _ c.in_ok-node-in-Delete.ensures.found)))
    c.delete.ensures.graph
