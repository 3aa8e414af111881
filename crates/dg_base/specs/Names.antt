-- Interned texts: a list in which each stands once. The first one has the first open label, 1,024.
use Rattle.std.specs.Prelude.{ℕ, ◌+◌, ◌-◌, List, [], ◌∷◌, ◌++◌, cond, nat_lt, Option, None, is_some, slice_get, position, bytes_eq}
use Rattle.std.specs.Option.{option_map}
use Rattle.dg_base.specs.declared.ids.Label.{Label}
use Rattle.dg_base.specs.declared.ids.TheConstants.{FIRST_OPEN}

-- the label of the text at a place, counted from 0
abbrev pub label_at : ℕ → Label
label_at place = record { 0 = FIRST_OPEN + place }

-- where a text stands, if it is interned
abbrev pub place_of : List (List ℕ) → List ℕ → Option ℕ
place_of names text = position (λ name. bytes_eq text name) names

-- the label of a text, where it is interned
abbrev pub label_of : List (List ℕ) → List ℕ → Option Label
label_of names text = option_map label_at (place_of names text)

-- the text of a label, where one is interned with it
abbrev pub text_at : List (List ℕ) → Label → Option (List ℕ)
text_at names label = cond (nat_lt label.0 FIRST_OPEN) None (slice_get names (label.0 - FIRST_OPEN))

-- the names after `intern`: a text that is there stays, and another goes last
abbrev pub interned : List (List ℕ) → List ℕ → List (List ℕ)
interned names text = cond (is_some (place_of names text)) names (names ++ text ∷ [])
