use Rattle.std.proofs.Common.{◌≡◌, ℕ, suc, ◌+◌, List, ◌∷◌, sym, ap, ◌∙◌, drop, add-one, drop-cons}
use Rattle.dg_base.specs.declared.ids.Endpoint.{Endpoint}
use Rattle.dg_base.specs.declared.step.Step.{Step}
use Rattle.dg_base.specs.Progress.{Progress}
use Rattle.dg_base.specs.Transact.{applied_from}
use Rattle.dg_laws.proofs.SoundApplied.{step_of-after}
use Rattle.dg_tx.specs.Outcome.{progress}
use Rattle.dg_tx.proofs.AppliedSteps.{step_done}
use Rattle.dg_tx.proofs.transaction.do_all.Goals as goal

pub loop-step-preserved : goal.loop-step-preserved
loop-step-preserved g c =
    let p : Progress = progress c.loop-step.work in
    let q : Progress = progress c.do_step.new.work in
    let s : Step = c.step-item.result in
    let steps : List Step = c.args.steps.now in
    let i : ℕ = c.loop-step.step-index in
    let later : List Step = drop (i + 1) steps in
    let touched : List Endpoint = c.loop-step.work.touched.items in
    let more : List Endpoint = c.do_step.new.work.touched.items in
    let here : drop i steps ≡ s ∷ later =
    drop-cons steps i s c.loop-step-test.true
    ∙ ap (λ (z : Step). z ∷ drop (suc i) steps) (sym c.step-item.is)
    ∙ ap (λ (n : ℕ). s ∷ drop n steps) (sym (add-one i))
    in
    record {
      ready = (step_of-after c.loop-step.invariant.ready s c.in_default-do_step.ensures.graph).ready;
      rest =
          ap (λ n. applied_from g.S.Schema.tables later (n + 1) q more) c.in-Some.ensures.1
          ∙ sym (step_done g.S.Schema.tables s later (c.loop-step.done + 1) p touched q more c.in_default-do_step.ensures.graph c.in_default-do_step.ensures.touched)
          ∙ ap (λ (zs : List Step). applied_from g.S.Schema.tables zs (c.loop-step.done + 1) p touched) (sym here)
          ∙ c.loop-step.invariant.rest;
    }
