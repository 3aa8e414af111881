-- What a completion leaves of the desk.
use Rattle.std.specs.Prelude.{◌≡◌, ℕ, ◌<◌, List, ◌++◌, Bool, true, false, Some, map, slice_get}
use Rattle.std.specs.List.{Contains}
use Rattle.dg_line.specs.Revisions.{Seen}
use Rattle.dg_desk.specs.declared.event.What.TheVariants as what
use Rattle.dg_desk.specs.Machine.{Act, Event}
use Rattle.dg_desk.specs.Desks.{Desked, state_of}
use Rattle.dg_asks.specs.declared.asking.Asking.{Asking}
use Rattle.dg_asks.specs.Asks.{Ask, asking_ask}
use Rattle.dg_asks.specs.Told.{AreUnrefused, IsTold}

-- what was asked, in order
abbrev pub asks_of : {M : Type 0} → List (Asking M Seen) → List Ask
asks_of asked = map asking_ask asked

-- its records: publications, and a fresh start where the desk was elsewhere
abbrev pub is_own : {M : Type 0} → Act Seen M → Bool
is_own (what.Publish o a) = true
is_own (what.Settle to) = true
is_own _ = false

-- a later desk has all records of before, and then only such ones
pub record IsGrown {M : Type 0} (d v : Desked Seen M) : Type 0 where
  pub added : List (Event Seen M)
  pub history : v.history ≡ d.history ++ added
  pub own : (e : Event Seen M) → Contains added e → is_own e.what ≡ true
  pub opened : v.opened ≡ d.opened
  pub capacity : v.capacity ≡ d.capacity

-- an ask is told, and all else holds on
pub record IsDone {M : Type 0} (see : Seen → Seen) (d v : Desked Seen M) (k : ℕ) (a : Ask) : Type 0 where
  pub grown : IsGrown d v
  pub now : (state_of see v).now ≡ (state_of see d).now
  pub told : IsTold v.history k a
  pub unrefused : AreUnrefused d.history → AreUnrefused v.history

-- the asks below a number are told
abbrev pub AreToldBelow : {M : Type 0} → List (Event Seen M) → ℕ → List Ask → Type 0
AreToldBelow hs n asks = (k : ℕ) (a : Ask) → k < n → slice_get asks k ≡ Some a → IsTold hs k a

-- where a flag is set, the ask of its place is told
abbrev pub AreToldWhere : {M : Type 0} → List (Event Seen M) → List Bool → List Ask → Type 0
AreToldWhere hs flags asks = (k : ℕ) (a : Ask) → slice_get flags k ≡ Some true → slice_get asks k ≡ Some a → IsTold hs k a
