-- The pins of a script: names for revisions, which stay readable for good.
use Rattle.std.specs.Prelude.{ℕ, List, [], ◌∷◌, Option, Some, None, bytes_eq, cond, filter, not}
use Rattle.dg_line.specs.Revisions.{Seen}

-- a pin that is live
pub record Pinned : Type 0 where
  pub name : List ℕ
  pub revision : Seen

-- the revision that a name is pinned to
abbrev pub pin_named : List Pinned → List ℕ → Option Seen
pin_named [] name = None
pin_named (p ∷ ps) name = cond (bytes_eq p.name name) (Some p.revision) (pin_named ps name)

-- the pins without one
abbrev pub without_pin : List ℕ → List Pinned → List Pinned
without_pin name ps = filter (λ p. not (bytes_eq p.name name)) ps

-- at most so many are live at a time
abbrev pub max_pins : ℕ
max_pins = 1024
