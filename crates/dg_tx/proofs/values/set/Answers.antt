use Rattle.std.proofs.Common.{sym, ap, ◌∙◌, subst}
use Rattle.dg_base.specs.declared.datum.Datum.{Datum}
use Rattle.dg_base.specs.Sound.{IsSound, role_at}
use Rattle.dg_base.specs.Changes.{with_value}
use Rattle.dg_base.specs.Progress.{Progress}
use Rattle.dg_base.specs.Steps.{set_by}
use Rattle.dg_laws.proofs.SoundSteps.{set_step-value}
use Rattle.dg_tx.specs.Outcome.{progress}
use Rattle.dg_tx.proofs.values.set.Goals as goal

pub set_value-requires-clause-sound : goal.set_value-requires-clause-sound
set_value-requires-clause-sound g c =
    let p : Progress = progress c.args.work.now in
    subst (λ (v : Datum). IsSound g.S.Schema.tables (with_value p.graph c.args.node c.args.label v)) (sym c.in_ok-value.ensures)
    (set_step-value p c.requires.ready.sound c.args.node c.args.label c.args.value.now
    (ap (λ b. set_by p c.args.node c.args.label c.args.value.now b (role_at g.S.Schema.tables p.graph c.args.node c.args.label)) (sym c.is_open-opens.ensures)
    ∙ ap (set_by p c.args.node c.args.label c.args.value.now c.is_open-opens.result) (sym c.role_at.ensures)
    ∙ c.in_ok-may_set.ensures p c.args.node))
