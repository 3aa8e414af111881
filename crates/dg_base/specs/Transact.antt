-- A transaction: its steps one after the other, all of them or none.
use Rattle.std.specs.Prelude.{ℕ, ◌+◌, List, [], ◌∷◌, ◌++◌, Result, Ok, Err}
use Rattle.dg_base.specs.declared.ids.NodeId.{NodeId}
use Rattle.dg_base.specs.declared.ids.Endpoint.{Endpoint}
use Rattle.dg_base.specs.declared.step.Step.{Step}
use Rattle.dg_base.specs.declared.step.TxCode.{TxCode}
use Rattle.dg_base.specs.declared.step.RefusedStep.{RefusedStep}
use Rattle.dg_base.specs.Order.{ordered}
use Rattle.dg_base.specs.Tables.{Tables}
use Rattle.dg_base.specs.Graph.{Graph}
use Rattle.dg_base.specs.Refusal.{and_then}
use Rattle.dg_base.specs.Progress.{Progress}
use Rattle.dg_base.specs.Steps.{step_of}
use Rattle.dg_base.specs.Touched.{touched_by}

-- what a transaction gives: the graph, the next id, the ids that its making steps made, and what all
-- its steps touched, in endpoint order, each once
pub record Applied : Type 0 where
  pub graph : Graph
  pub next : ℕ
  pub made : List NodeId
  pub touched : List Endpoint

-- or the first step that is refused, with its number
abbrev pub at_step : ℕ → Result Progress TxCode → Result Progress RefusedStep
at_step number (Ok p) = Ok p
at_step number (Err c) = Err (record { step = number; code = c })

abbrev pub applied_from : Tables → List Step → ℕ → Progress → List Endpoint → Result Applied RefusedStep
applied_from t [] number p touched = Ok (record { graph = p.graph; next = p.next; made = p.made; touched = ordered touched })
applied_from t (s ∷ ss) number p touched =
    and_then (at_step number (step_of t p s)) (λ q. applied_from t ss (number + 1) q (touched ++ touched_by t p q s))

abbrev pub applied : Tables → Graph → ℕ → List Step → Result Applied RefusedStep
applied t g next ss = applied_from t ss 1 (record { graph = g; next = next; made = [] }) []
