-- How few chunks a balanced tree of a given height can have.
use Rattle.std.specs.Prelude.{◌≡◌, ℕ, zero, suc, ◌+◌, ◌≤◌, max, Option, Some, None}
use Rattle.std.specs.Arc.{arc_value}
use Rattle.std.specs.declared.sync.Arc.{Arc}
use Rattle.std.specs.declared.alloc.Global.{Global}

-- a fork of height n + 2 has halves of heights n + 1 and at least n
abbrev pub fewest : ℕ → ℕ
fewest zero = 1
fewest (suc zero) = 2
fewest (suc (suc n)) = fewest (suc n) + fewest n

-- the height of one tree made of two: at most one more than the taller, and just that where they are near
pub record IsJoinHeight (low high height : ℕ) : Type 0 where
  pub least : max low high ≤ height
  pub most : height ≤ max low high + 1
  pub near : low ≤ high + 1 → high ≤ low + 1 → height ≡ max low high + 1

-- after one more pair
pub record IsGrown (old new : ℕ) : Type 0 where
  pub least : old ≤ new
  pub most : new ≤ old + 1

-- after one pair less: nothing is left of a chunk alone
abbrev pub IsShrunk : {Y : Type 0} → ℕ → Option (Arc (Y × ℕ) Global) → Type 0
IsShrunk old None = old ≡ 0
IsShrunk old (Some t) = ((arc_value t).1 ≤ old) × (old ≤ (arc_value t).1 + 1)
