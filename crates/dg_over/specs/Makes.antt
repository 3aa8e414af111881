-- What a call that makes override nodes answers.
use Rattle.std.specs.Prelude.{ℕ, List, Result}
use Rattle.dg_base.specs.declared.ids.NodeId.{NodeId}
use Rattle.dg_base.specs.declared.step.TxCode.{TxCode}
use Rattle.dg_base.specs.declared.refusal.Refusal.{Refusal}
use Rattle.dg_base.specs.Graph.{Graph}
use Rattle.dg_base.specs.Refusal.{Gives}
use Rattle.dg_base.specs.Progress.{Progress}

abbrev pub progress_of : Graph → ℕ → List NodeId → Progress
progress_of g next made = record { graph = g; next = next; made = made }

-- the graph and the next id were changed, or the call refused, as a definition says of a transaction,
-- whatever its steps had made before
abbrev pub Makes : (Progress → Result Progress TxCode) → Graph → ℕ → Graph → Result ℕ (Refusal TxCode) → Type 0
Makes defined before next after result =
    (made : List NodeId) → Gives (λ n. progress_of after n made) result (defined (progress_of before next made))
