-- What a call leaves, against what the definitions give. Where memory is refused nothing is said.
use Rattle.std.specs.Prelude.{◌≡◌, ℕ, List, Result, Ok, Err}
use Rattle.dg_base.specs.declared.refusal.Refusal.{Refusal}
use Rattle.dg_base.specs.declared.refusal.Refusal.TheVariants.{Because, NoMemory}
use Rattle.dg_bind.specs.declared.refusal.Missing.{Missing}
use Rattle.dg_bind.specs.declared.refusal.MissingAt.{MissingAt}
use Rattle.dg_bind.specs.Steps.{Taken, Missed}

-- a step that misses something interns nothing
abbrev pub Interns : {A : Type 0} → Result A (Refusal Missing) → List (List ℕ) → List (List ℕ) → List (List ℕ) → Type 0
Interns (Ok x) old new after = new ≡ after
Interns (Err (Because missing)) old new after = new ≡ old
Interns (Err NoMemory) old new after = Unit {0}

-- all steps: the first that misses something, and the names that are interned then
abbrev pub IsMissing : Refusal MissingAt → Result Taken Missed → List (List ℕ) → Type 0
IsMissing (Because at) given names = given ≡ Err (record { step = at.step; missing = at.missing; names = names })
IsMissing NoMemory given names = Unit {0}

-- the refusal of a step, with the step's number
abbrev pub at_step : ℕ → Refusal Missing → Refusal MissingAt
at_step number (Because missing) = Because (record { step = number; missing = missing })
at_step number NoMemory = NoMemory
