-- The first key of a list of pairs.
use Rattle.std.specs.Prelude.{Option, Some, None, List, [], ◌∷◌}

abbrev pub first_key_of : {K X : Type 0} → List (K × X) → Option K
first_key_of [] = None
first_key_of (e ∷ es) = Some e.0
