-- The one text that a value is printed as.
use Rattle.std.specs.Prelude.{ℕ, ◌+◌, ◌/◌, ◌%◌, ◌^◌, zero, suc, List, [], ◌∷◌, ◌++◌, ℤ, pos, negsuc, ◌==◌, if◌then◌else◌}
use Rattle.std.specs.Fmt.{decimal}
use Rattle.dg_decimal.specs.Form.{minus, point}
use Rattle.dg_decimal.specs.Value.{billion}

-- so many digits of a number that has no more, with zeros in front where it has fewer
abbrev pub padded_digits : ℕ → ℕ → List ℕ
padded_digits zero number = []
padded_digits (suc count) number = (48 + number / 10 ^ count) ∷ padded_digits count (number % 10 ^ count)

-- a digit put before others, where a zero with nothing behind it is left out
abbrev pub before_trimmed : ℕ → List ℕ → List ℕ
before_trimmed digit [] = if digit == 48 then [] else digit ∷ []
before_trimmed digit (next ∷ rest) = digit ∷ (next ∷ rest)

-- digits without the zeros that they end with
abbrev pub without_zeros : List ℕ → List ℕ
without_zeros [] = []
without_zeros (digit ∷ digits) = before_trimmed digit (without_zeros digits)

-- the digits of the rest below one, at most nine
unfoldable pub fraction_digits : ℕ → List ℕ
fraction_digits rest = without_zeros (padded_digits 9 rest)

-- the point and the digits behind it, where the rest is not 0
abbrev pub fraction_text : ℕ → List ℕ
fraction_text rest = if rest == 0 then [] else point ∷ fraction_digits rest

-- a number of billionths without its sign: the whole part without zeros in front, and the fraction
abbrev pub magnitude_text : ℕ → List ℕ
magnitude_text billionths = decimal (billionths / billion) ++ fraction_text (billionths % billion)

-- the text of a value: a minus only where it is negative
abbrev pub canonical : ℤ → List ℕ
canonical (pos n) = magnitude_text n
canonical (negsuc n) = minus ∷ magnitude_text (n + 1)
