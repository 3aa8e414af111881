-- Names with what they stand for: a list in which each name stands once.
use Rattle.std.specs.Prelude.{ℕ, List, [], ◌∷◌, cond, map, Option, Some, None, bytes_eq, string_bytes}
use Rattle.std.specs.declared.string.String.{String}

module _ {V : Type 0} where
  -- what a name stands for
  abbrev pub find : List (List ℕ × V) → List ℕ → Option V
  find [] name = None
  find (n ∷ ns) name = cond (bytes_eq name n.0) (Some n.1) (find ns name)

  -- a name that is there stands for the new value from then on, in its old place; another goes last
  abbrev pub put : List ℕ → V → List (List ℕ × V) → List (List ℕ × V)
  put name v [] = (name, v) ∷ []
  put name v (n ∷ ns) = cond (bytes_eq name n.0) ((n.0, v) ∷ ns) (n ∷ put name v ns)

  -- what a map holds
  abbrev pub pairs_in : {A : Type 0} → List (String A × V) → List (List ℕ × V)
  pairs_in entries = map (λ e. (string_bytes e.0, e.1)) entries
