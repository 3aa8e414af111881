-- The outcome of steps: what holds of it unless a limit was met.
use Rattle.std.proofs.Common.{◌≡◌, ℕ, ◌+◌, List, [], ◌∷◌, ◌++◌, Result, Ok, Err, refl, subst}
use Rattle.dg_base.specs.declared.ids.NodeId.{NodeId}
use Rattle.dg_base.specs.declared.ids.Endpoint.{Endpoint}
use Rattle.dg_base.specs.declared.step.Step.{Step}
use Rattle.dg_base.specs.declared.step.TxCode.{TxCode}
use Rattle.dg_base.specs.declared.step.RefusedStep.{RefusedStep}
use Rattle.dg_base.specs.Tables.{Tables}
use Rattle.dg_base.specs.Graph.{Graph, empty}
use Rattle.dg_base.specs.Refusal.{and_then}
use Rattle.dg_base.specs.Progress.{Progress}
use Rattle.dg_base.specs.Steps.{step_of}
use Rattle.dg_base.specs.Touched.{touched_by}
use Rattle.dg_base.specs.Transact.{Applied, applied_from, at_step}
use Rattle.dg_load_laws.specs.Laws.{IsLimit}

-- such a progress, or a limit was met
abbrev pub Leads : (Progress → Type 0) → Result Progress TxCode → Type 0
Leads P (Ok p) = P p
Leads P (Err c) = IsLimit c

pub Leads-then : (P Q : Progress → Type 0) (r : Result Progress TxCode) (f : Progress → Result Progress TxCode) → Leads P r → ((p : Progress) → P p → Leads Q (f p)) → Leads Q (and_then r f)
Leads-then P Q (Ok p) f h next = next p h
Leads-then P Q (Err c) f h next = h

pub Leads-weaker : (P Q : Progress → Type 0) (r : Result Progress TxCode) → Leads P r → ((p : Progress) → P p → Q p) → Leads Q r
Leads-weaker P Q (Ok p) h next = next p h
Leads-weaker P Q (Err c) h next = h

-- the same, where the outcome is known by an equation
pub Leads-by : (P Q : Progress → Type 0) (r : Result Progress TxCode) → Leads P r → ((q : Progress) → r ≡ Ok q → P q → Q q) → Leads Q r
Leads-by P Q (Ok q) h next = next q refl h
Leads-by P Q (Err c) h next = h

-- ---- steps one after another

-- before the first step
abbrev pub begun : Progress
begun = record { graph = empty; next = 1; made = [] }

-- from an outcome on, the outcome of more steps
abbrev pub runs : Tables → Result Progress TxCode → List Step → Result Progress TxCode
runs t r [] = r
runs t r (s ∷ ss) = runs t (and_then r (λ p. step_of t p s)) ss

pub runs-push : (t : Tables) (r : Result Progress TxCode) (ss : List Step) (s : Step) → runs t r (ss ++ s ∷ []) ≡ and_then (runs t r ss) (λ p. step_of t p s)
runs-push t r [] s = refl
runs-push t r (x ∷ ss) s = runs-push t (and_then r (λ p. step_of t p x)) ss s

runs-refused : (t : Tables) (ss : List Step) (c : TxCode) → runs t (Err c) ss ≡ Err c
runs-refused t [] c = refl
runs-refused t (s ∷ ss) c = runs-refused t ss c

-- ---- a whole transaction

-- what holds of the progress where it ends holds of what it gives
abbrev pub Ends : (Graph → List NodeId → Type 0) → Result Applied RefusedStep → Type 0
Ends M (Ok a) = M a.graph a.made
Ends M (Err r) = IsLimit r.code

pub transaction : (t : Tables) (M : Graph → List NodeId → Type 0) (ss : List Step) (number : ℕ) (p : Progress) (touched : List Endpoint) → Leads (λ q. M q.graph q.made) (runs t (Ok p) ss) →
    Ends M (applied_from t ss number p touched)
transaction t M [] number p touched h = h
transaction t M (s ∷ ss) number p touched h = by_step (step_of t p s) h (λ q. transaction t M ss (number + 1) q (touched ++ touched_by t p q s))
  where
    by_step : (r : Result Progress TxCode) → Leads (λ q. M q.graph q.made) (runs t r ss) →
        ((q : Progress) → Leads (λ z. M z.graph z.made) (runs t (Ok q) ss) → Ends M (applied_from t ss (number + 1) q (touched ++ touched_by t p q s))) →
        Ends M (and_then (at_step number r) (λ q. applied_from t ss (number + 1) q (touched ++ touched_by t p q s)))
    by_step (Ok q) h rest = rest q h
    by_step (Err c) h rest = subst (Leads (λ q. M q.graph q.made)) (runs-refused t ss c) h
