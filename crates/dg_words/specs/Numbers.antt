-- Words that are numbers: 1 to 20 digits, with a value in a range.
use Rattle.std.specs.Prelude.{List, ℕ, Bool, ◌&&◌, nat_le, Option, Some, None, Result, Ok, length}
use Rattle.std.specs.List.{list_all}
use Rattle.std.specs.Char.{is_ascii_digit}
use Rattle.std.specs.Str.Parse.{digits_value}
use Rattle.dg_words.specs.declared.task.Usage.{Usage}
use Rattle.dg_words.specs.Paths.{usage, checked}

abbrev pub is_number : List ℕ → Bool
is_number text = (nat_le 1 (length text) && nat_le (length text) 20) && list_all is_ascii_digit text

abbrev pub is_in : ℕ → ℕ → ℕ → Bool
is_in least most n = nat_le least n && nat_le n most

abbrev pub number_in : ℕ → ℕ → List ℕ → Result ℕ Usage
number_in least most text = checked (is_number text && is_in least most (digits_value 10 text)) (digits_value 10 text)

-- a number that has to stand there
abbrev pub number_of : ℕ → ℕ → Option (List ℕ) → Result ℕ Usage
number_of least most None = usage
number_of least most (Some text) = number_in least most text

-- a number that may stand there, and else its default
abbrev pub option_of : ℕ → ℕ → ℕ → Option (List ℕ) → Result ℕ Usage
option_of default least most None = Ok default
option_of default least most (Some text) = number_in least most text
