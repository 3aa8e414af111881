-- The parts of a line: runs of bytes, words, strings, and what stands in brackets.
use Rattle.std.specs.Prelude.{ℕ, Bool, not, ◌||◌, ◌==◌, List, [], ◌∷◌, cond, Option, Some, None, codes, length, drop, nat_eq}
use Rattle.std.specs.Option.{option_map}
use Rattle.std.specs.List.{take_while, prefix_len, starts_with}
use Rattle.std.specs.Char.{is_ascii_alphabetic, is_ascii_digit}

-- ---- bytes

abbrev pub is_blank : ℕ → Bool
is_blank b = b == 32 || b == 9

abbrev pub is_letter : ℕ → Bool
is_letter b = is_ascii_alphabetic b || b == 95

-- a byte that may stand in a decimal
abbrev pub is_of_decimal : ℕ → Bool
is_of_decimal b = is_ascii_digit b || b == 46 || b == 43 || b == 45 || b == 101 || b == 69

-- a byte of a string between these quotes, which is no such quote and no backslash
abbrev pub is_inside : ℕ → ℕ → Bool
is_inside quote b = not (b == quote || b == 92)

-- ---- runs and words

-- what a text begins with as long as a test passes, and what stands behind that
abbrev pub run : (ℕ → Bool) → List ℕ → List ℕ
run passes text = take_while passes text

abbrev pub behind_run : (ℕ → Bool) → List ℕ → List ℕ
behind_run passes text = drop (prefix_len passes text) text

abbrev pub behind_blanks : List ℕ → List ℕ
behind_blanks text = behind_run is_blank text

-- what stands behind a word that a text begins with
abbrev pub behind : List ℕ → List ℕ → Option (List ℕ)
behind word text = cond (starts_with nat_eq text word) (Some (drop (length word) text)) None

-- what comes next, where something was found
abbrev pub and_then : {A B : Type 0} → Option A → (A → Option B) → Option B
and_then None next = None
and_then (Some a) next = next a

-- what comes next where something was found, and else another
abbrev pub found_or : {A B : Type 0} → Option A → (A → Option B) → Option B → Option B
found_or None next other = other
found_or (Some a) next other = next a

-- ---- strings

-- a text that was taken, and what stands behind it
pub record Taken : Type 0 where
  pub text : List ℕ
  pub behind : List ℕ

abbrev pub taken : List ℕ → List ℕ → Taken
taken text rest = record { text = text; behind = rest }

-- behind a quote: all up to the next one
abbrev pub closed_by : ℕ → List ℕ → Option Taken
closed_by quote text =
    option_map (taken (run (is_inside quote) text)) (behind (quote ∷ []) (behind_run (is_inside quote) text))

-- a string in quotes of either sort
abbrev pub string_in : List ℕ → Option Taken
string_in text =
    found_or (behind (codes "\"") text) (closed_by 34) (and_then (behind (codes "'") text) (closed_by 39))

-- ---- brackets

-- blanks and the bracket that closes
abbrev pub behind_bracket : List ℕ → Option (List ℕ)
behind_bracket text = behind (codes ")") (behind_blanks text)

-- what was taken, and then the bracket that closes
abbrev pub closed : Taken → Option Taken
closed found = option_map (taken found.text) (behind_bracket found.behind)

-- behind an opening bracket: a string and the bracket that closes
abbrev pub argument_in : List ℕ → Option Taken
argument_in text = and_then (string_in (behind_blanks text)) closed

-- the same, or the bracket that closes alone, which stands for an empty string
abbrev pub argument_or_none : List ℕ → Option Taken
argument_or_none text = found_or (behind_bracket text) (λ rest. Some (taken [] rest)) (argument_in text)
