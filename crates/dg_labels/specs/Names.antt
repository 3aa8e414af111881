-- A table of names: each line is a thing and its name.
use Rattle.std.specs.Prelude.{ℕ, List, [], ◌∷◌, Bool, cond, Option, Some, None, bytes_eq}

-- the name of the first line of a thing
abbrev pub name_in : {X : Type 0} → (X → X → Bool) → List (X × List ℕ) → X → Option (List ℕ)
name_in same [] x = None
name_in same (line ∷ lines) x = cond (same x line.0) (Some line.1) (name_in same lines x)

-- what the first line of a name names
abbrev pub named_in : {X : Type 0} → List (X × List ℕ) → List ℕ → Option X
named_in [] text = None
named_in (line ∷ lines) text = cond (bytes_eq text line.1) (Some line.0) (named_in lines text)
