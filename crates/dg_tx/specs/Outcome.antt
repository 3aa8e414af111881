-- What a call of a transaction answers, against what the definitions give.
use Rattle.std.specs.Prelude.{ℕ, List, Option, Some, None, Result, Ok, Err}
use Rattle.dg_base.specs.declared.ids.NodeId.{NodeId}
use Rattle.dg_base.specs.declared.ids.Label.{Label}
use Rattle.dg_base.specs.declared.ids.ArcRec.{ArcRec}
use Rattle.dg_base.specs.declared.refusal.Refusal.{Refusal}
use Rattle.dg_base.specs.declared.refusal.Refusal.TheVariants as refusal
use Rattle.dg_base.specs.declared.step.TxCode.{TxCode}
use Rattle.dg_base.specs.declared.step.TxCode.TheVariants as code
use Rattle.dg_base.specs.declared.step.RefusedStep.{RefusedStep}
use Rattle.dg_base.specs.Graph.{Graph}
use Rattle.dg_base.specs.Refusal.{Gives}
use Rattle.dg_base.specs.Progress.{Progress}
use Rattle.dg_over.specs.Makes.{progress_of}
use Rattle.dg_tx.specs.declared.work.Work.{Work}

-- a transaction as far as it was done
abbrev pub progress : {S : Type 0} → Work S → Progress
progress w = progress_of w.graph w.next w.made.items

-- the node that a step names, and the arc between two, or why the step is refused
abbrev pub found : Option NodeId → Result NodeId TxCode
found None = Err code.NoNode
found (Some n) = Ok n

abbrev pub found_arc : Option NodeId → Label → Option NodeId → Label → Result ArcRec TxCode
found_arc None l target i = Err code.NoNode
found_arc (Some n) l None i = Err code.NoNode
found_arc (Some n) l (Some m) i = Ok (record { src = record { node = n; label = l }; node = m; input = i })

-- the graph was changed, or the call refused, as a definition says of a transaction, whatever its next
-- id is and whatever its steps had made before
abbrev pub Changes : (Progress → Result Progress TxCode) → Graph → Graph → Result (Unit {0}) (Refusal TxCode) → Type 0
Changes defined before after result =
    (next : ℕ) (made : List NodeId) → Gives (λ _. progress_of after next made) result (defined (progress_of before next made))

-- the refusal of a step is the transaction's, with the step's number
abbrev pub numbered : ℕ → Refusal TxCode → Refusal RefusedStep
numbered number (refusal.Because c) = refusal.Because (record { step = number; code = c })
numbered number refusal.NoMemory = refusal.NoMemory
