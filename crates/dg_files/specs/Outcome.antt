-- What a call of the outside leaves, beside what it answers.
use Rattle.std.specs.Prelude.{◌≡◌, ◌≢◌, ℕ, ◌+◌, ◌-◌, ◌^◌, ◌≤◌, ◌⊎◌, min, List, take, Option, Some, None, Result, Err}
use Rattle.dg_files.specs.Tree.{Tree, bytes_at}
use Rattle.dg_base.specs.declared.refusal.Refusal.{Refusal}
use Rattle.dg_base.specs.declared.refusal.Refusal.TheVariants.{Because}
use Rattle.dg_files.specs.declared.refusal.Failed.{Failed}

-- that the outside failed
abbrev pub failure : Refusal Failed
failure = Because (record {})

-- the count rose, or stands at the greatest u64. There a failure can't be told from none: nothing fails
-- so often, but no contract says that
abbrev pub Rose : ℕ → ℕ → Type 0
Rose before now = min (before + 1) (2 ^ 64 - 1) ≤ now

-- the count never falls, and it rose where the call failed
pub record HasCause {T : Type 0} (before now : ℕ) (outcome : Result T (Refusal Failed)) : Type 0 where
  pub never_falls : before ≤ now
  pub failed : outcome ≡ Err failure → Rose before now

-- what never fails goes on so, and its count stays
abbrev pub StaysSound : {S : Type 0} → (S → Type 0) → (S → ℕ) → S → S → Type 0
StaysSound is_sound faults before now = is_sound before → is_sound now × (faults now ≡ faults before)

-- at a path: nothing, what was there, or a first part of the bytes
abbrev pub IsLeftAt : Option (List ℕ) → Option (List ℕ) → List ℕ → Type 0
IsLeftAt before now bytes = (now ≡ None) ⊎ ((now ≡ before) ⊎ ((n : ℕ) × (now ≡ Some (take n bytes))))

-- the others have what they had, and the path is left so
pub record KeepsOthers (before now : Tree) (path bytes : List ℕ) : Type 0 where
  pub others : (other : List ℕ) → other ≢ path → bytes_at now other ≡ bytes_at before other
  pub this : IsLeftAt (bytes_at before path) (bytes_at now path) bytes

-- what a failed write leaves: what told its tree tells it still
abbrev pub IsLeftByFailure : Option Tree → Option Tree → List ℕ → List ℕ → Type 0
IsLeftByFailure None now path bytes = Unit {0}
IsLeftByFailure (Some before) None path bytes = ⊥
IsLeftByFailure (Some before) (Some now) path bytes = KeepsOthers before now path bytes
