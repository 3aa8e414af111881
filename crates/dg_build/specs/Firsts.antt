-- First appearances: each member of a list once, where it first stands.
use Rattle.std.specs.Prelude.{ℕ, List, [], ◌∷◌, Bool, not, filter, position}
use Rattle.std.specs.Option.{unwrap_or}

module _ {X : Type 0} (same : X → X → Bool) where
  abbrev pub firsts : List X → List X
  firsts [] = []
  firsts (x ∷ xs) = x ∷ filter (λ y. not (same x y)) (firsts xs)

  -- the place of a member, from 0
  abbrev pub place_of : List X → X → ℕ
  place_of xs x = unwrap_or (position (same x) xs) 0
