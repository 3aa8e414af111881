-- One step of a transaction, and then the others.
use Rattle.std.proofs.Common.{◌≡◌, ℕ, ◌+◌, List, ◌∷◌, ◌++◌, Result, Ok, Err, sym, ap, ◌∙◌}
use Rattle.dg_base.specs.declared.ids.Endpoint.{Endpoint}
use Rattle.dg_base.specs.declared.step.Step.{Step}
use Rattle.dg_base.specs.declared.step.TxCode.{TxCode}
use Rattle.dg_base.specs.Tables.{Tables}
use Rattle.dg_base.specs.Refusal.{and_then}
use Rattle.dg_base.specs.Progress.{Progress}
use Rattle.dg_base.specs.Steps.{step_of}
use Rattle.dg_base.specs.Touched.{touched_by}
use Rattle.dg_base.specs.Transact.{at_step, applied_from}

module _ (t : Tables) (s : Step) (ss : List Step) (number : ℕ) (p : Progress) (touched : List Endpoint) where
  pub step_done : (q : Progress) (later : List Endpoint) → step_of t p s ≡ Ok q → later ≡ touched ++ touched_by t p q s →
      applied_from t (s ∷ ss) number p touched ≡ applied_from t ss (number + 1) q later
  step_done q later done more =
      ap (λ (r : Result Progress TxCode). and_then (at_step number r) (λ z. applied_from t ss (number + 1) z (touched ++ touched_by t p z s))) done
      ∙ ap (applied_from t ss (number + 1) q) (sym more)

  pub step_refused : (c : TxCode) → step_of t p s ≡ Err c → applied_from t (s ∷ ss) number p touched ≡ Err (record { step = number; code = c })
  step_refused c refused =
      ap (λ (r : Result Progress TxCode). and_then (at_step number r) (λ z. applied_from t ss (number + 1) z (touched ++ touched_by t p z s))) refused
