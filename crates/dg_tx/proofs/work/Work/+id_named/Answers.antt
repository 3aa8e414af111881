use Rattle.std.proofs.Common.{sym, ap, ◌∙◌}
use Rattle.dg_base.specs.Progress.{Progress}
use Rattle.dg_base.specs.Steps.{id_named}
use Rattle.dg_tx.specs.Outcome.{progress}
use Rattle.dg_tx.proofs.NamedNodes.{in_no_root, in_no_original, in_both}
use Rattle.dg_tx.proofs.work.Work.+id_named.Goals as goal

pub returns-in_err-root-in-In : goal.returns-in_err-root-in-In
returns-in_err-root-in-In g t c =
    let p : Progress = progress c.args.self.now in
    c.from_residual.ensures
    ∙ sym (in_no_root p c.args.reference.now c.in-In.root c.in-In.original c.in-In.is (ap (id_named p) (sym c.get.ensures) ∙ sym c.id_named.ensures ∙ c.in_err-root-in-In.was))

pub returns-in_err-original-in-In : goal.returns-in_err-original-in-In
returns-in_err-original-in-In g t c =
    let p : Progress = progress c.args.self.now in
    c.from_residual-in_err-original-in-In.ensures
    ∙ sym (in_no_original p c.args.reference.now c.in-In.root c.in-In.original c.in-In.is (ap (id_named p) (sym c.get-in-In.ensures) ∙ sym c.id_named-in-In.ensures ∙ c.in_err-original-in-In.was))

pub returns-in_ok-original-in-In : goal.returns-in_ok-original-in-In
returns-in_ok-original-in-In g t c =
    let p : Progress = progress c.args.self.now in
    c.override_in.ensures
    ∙ sym (
    in_both p c.args.reference.now c.in-In.root c.in-In.original c.in_ok-root-in-In.root c.in_ok-original-in-In.original c.in-In.is
    (ap (id_named p) (sym c.get.ensures) ∙ sym c.id_named.ensures ∙ c.in_ok-root-in-In.was)
    (ap (id_named p) (sym c.get-in-In.ensures) ∙ sym c.id_named-in-In.ensures ∙ c.in_ok-original-in-In.was))
