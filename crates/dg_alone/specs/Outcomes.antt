-- What a world answers to the events of a play, where it had memory for them.
use Rattle.std.specs.Prelude.{◌≡◌, List, Result, Ok, Err}
use Rattle.dg_base.specs.declared.ids.NodeId.{NodeId}
use Rattle.dg_base.specs.declared.refusal.Refusal.TheVariants as refusal
use Rattle.dg_desk.specs.declared.event.Followed.TheVariants as followed
use Rattle.dg_desk.specs.declared.event.Published.{Published}
use Rattle.dg_desk.specs.declared.event.PublishEnd.TheVariants as publish_end
use Rattle.dg_editor.specs.declared.cause.EditCause.{EditCause}
use Rattle.dg_world.specs.declared.event.Outcome.{Outcome}
use Rattle.dg_world.specs.declared.event.Outcome.TheVariants as outcome

-- which answers there may be, by the event

abbrev pub IsOfChange : Outcome → Type 0
IsOfChange (outcome.Edited made answer) = Unit {0}
IsOfChange (outcome.Refused r) = Unit {0}
IsOfChange _ = ⊥

abbrev pub IsOfPin : Outcome → Type 0
IsOfPin (outcome.Pinned n) = Unit {0}
IsOfPin outcome.NoMemory = Unit {0}
IsOfPin _ = ⊥

abbrev pub IsOfEvaluation : Outcome → Type 0
IsOfEvaluation (outcome.Answered held n) = Unit {0}
IsOfEvaluation outcome.NoMemory = Unit {0}
IsOfEvaluation _ = ⊥

abbrev pub IsOfPublication : Outcome → Type 0
IsOfPublication (outcome.Published a) = Unit {0}
IsOfPublication outcome.NoMemory = Unit {0}
IsOfPublication _ = ⊥

-- ---- answers with memory

-- an edit, an undo or a redo that the desk followed, or its refusal
abbrev pub change_outcome : Result (List NodeId) EditCause → Outcome
change_outcome (Ok made) = outcome.Edited made followed.Kept
change_outcome (Err c) = outcome.Refused (refusal.Because c)

-- all that is kept of an offer was put
pub record IsPublishedWhole (o : Outcome) (a : Published) : Type 0 where
  pub is : o ≡ outcome.Published a
  pub all : a.end ≡ publish_end.All
