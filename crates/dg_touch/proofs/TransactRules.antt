-- A transaction touches every endpoint whose rule it changes.
use Rattle.std.proofs.Common.{ℕ, ◌+◌, List, [], ◌∷◌, ◌++◌, Result, refl, sym, ◌∙◌, subst}
use Rattle.std.specs.Prelude.{IfOk}
use Rattle.dg_base.specs.declared.ids.Endpoint.{Endpoint}
use Rattle.dg_base.specs.declared.step.RefusedStep.{RefusedStep}
use Rattle.dg_base.specs.declared.step.Step.{Step}
use Rattle.dg_base.specs.Tables.{Tables, AreTables}
use Rattle.dg_base.specs.Graph.{Graph}
use Rattle.dg_base.specs.Sound.{IsSound}
use Rattle.dg_base.specs.Progress.{Progress, IsReady}
use Rattle.dg_base.specs.Steps.{step_of}
use Rattle.dg_base.specs.Touched.{touched_by}
use Rattle.dg_base.specs.Transact.{Applied, at_step, applied_from}
use Rattle.dg_laws.proofs.Orders.{ordered-among}
use Rattle.dg_laws.proofs.Ends.{ends_rank}
use Rattle.dg_laws.proofs.SoundApplied.{step_of-leads, applied-is_done}
use Rattle.dg_touch.specs.Laws.{RulesAgreeOutside, IsAccepted}
use Rattle.dg_touch.proofs.Results.{ok_both, and_then-ok, at_step-ok}
use Rattle.dg_touch.proofs.Outside.{rules-then}
use Rattle.dg_touch.proofs.StepRules.{step_of-rules}

-- what a transaction was begun with, as far as it was done: the next step can be done, and what was touched
-- so far holds what changed so far
pub record IsUnderWay (t : Tables) (g : Graph) (touched : List Endpoint) (p : Progress) : Type 0 where
  pub ready : IsReady t p
  pub rules : RulesAgreeOutside t g p.graph touched

-- one step more
pub step_of-under_way : {t : Tables} {g : Graph} {touched : List Endpoint} {p : Progress} → AreTables t → IsUnderWay t g touched p → (s : Step) →
    IfOk (step_of t p s) (λ q. IsUnderWay t g (touched ++ touched_by t p q s) q)
step_of-under_way {t} {g} {touched} {p} laws h s =
    ok_both (step_of t p s) (λ q led rules. record { ready = led.ready; rules = rules-then t g p.graph q.graph touched (touched_by t p q s) h.rules rules })
    (step_of-leads h.ready s) (step_of-rules laws h.ready s)

pub applied_from-rules : (ss : List Step) {t : Tables} {g : Graph} {touched : List Endpoint} {p : Progress} → AreTables t → (number : ℕ) → IsUnderWay t g touched p →
    IfOk (applied_from t ss number p touched) (λ a. RulesAgreeOutside t g a.graph a.touched)
applied_from-rules [] {t} {g} {touched} laws number h = λ e out. h.rules e (sym (ordered-among ends_rank touched e) ∙ out)
applied_from-rules (s ∷ ss) {t} {g} {touched} {p} laws number h =
    and_then-ok (λ a. RulesAgreeOutside t g a.graph a.touched)
    (at_step number (step_of t p s)) (λ q. applied_from t ss (number + 1) q (touched ++ touched_by t p q s))
    (at_step-ok (λ q. IsUnderWay t g (touched ++ touched_by t p q s) q) number (step_of t p s) (step_of-under_way laws h s)) (λ q k. applied_from-rules ss laws (number + 1) k)

module _ {t : Tables} {g : Graph} {next : ℕ} {ss : List Step} {a : Applied} (w : IsAccepted t g next ss a) where
  pub accepted-sound : IsSound t a.graph
  accepted-sound = (applied-is_done w.sound next w.below w.some ss a w.gives).sound

  pub accepted-rules : AreTables t → RulesAgreeOutside t g a.graph a.touched
  accepted-rules laws =
      subst (λ (r : Result Applied RefusedStep). IfOk r (λ z. RulesAgreeOutside t g z.graph z.touched)) w.gives (
      applied_from-rules ss laws 1 (record { ready = record { sound = w.sound; below = w.below; some = w.some }; rules = λ e out. refl }))
