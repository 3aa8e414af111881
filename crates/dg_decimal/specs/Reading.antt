-- What reading a text answers, as a function that computes.
use Rattle.std.specs.Prelude.{ℕ, ◌+◌, Bool, ◌&&◌, ◌||◌, List, [], length, drop, ◌==◌, nat_lt, slice_index, if◌then◌else◌, Option, Some, None, Result, Ok, Err, ℤ}
use Rattle.std.specs.Char.{is_ascii_digit}
use Rattle.std.specs.List.{list_all, prefix_len, take_while}
use Rattle.dg_decimal.specs.declared.refusal.DecimalRefusal.{DecimalRefusal}
use Rattle.dg_decimal.specs.declared.refusal.DecimalRefusal.TheVariants.{NotNumber, Range}
use Rattle.dg_decimal.specs.Form.{Number, plus, minus, point, small_e, capital_e}
use Rattle.dg_decimal.specs.Value.{billionths, fits}

-- the text begins with a minus; what follows its sign, if it has one
abbrev pub begins_negative : List ℕ → Bool
begins_negative text = slice_index text 0 == minus

abbrev pub after_sign : List ℕ → List ℕ
after_sign text = if (slice_index text 0 == minus || slice_index text 0 == plus) then drop 1 text else text

-- the digits that the text begins with, and what follows them
abbrev pub digits_in : List ℕ → List ℕ
digits_in text = take_while is_ascii_digit text

abbrev pub after_digits : List ℕ → List ℕ
after_digits text = drop (prefix_len is_ascii_digit text) text

-- the digits behind a point that the text begins with, and what follows them
abbrev pub begins_with_point : List ℕ → Bool
begins_with_point text = slice_index text 0 == point

abbrev pub fraction_in : List ℕ → List ℕ
fraction_in text = if begins_with_point text then digits_in (drop 1 text) else []

abbrev pub after_fraction : List ℕ → List ℕ
after_fraction text = if begins_with_point text then after_digits (drop 1 text) else text

-- the text is nothing but an exponent; it is that or empty
abbrev pub is_exponent : List ℕ → Bool
is_exponent text =
    (slice_index text 0 == small_e || slice_index text 0 == capital_e)
    && (nat_lt 0 (length (after_sign (drop 1 text))) && list_all is_ascii_digit (after_sign (drop 1 text)))

abbrev pub is_exponent_or_empty : List ℕ → Bool
is_exponent_or_empty text = length text == 0 || is_exponent text

-- the parts of a text that is a number
abbrev pub whole_in : List ℕ → List ℕ
whole_in text = digits_in (after_sign text)

abbrev pub after_whole : List ℕ → List ℕ
after_whole text = after_digits (after_sign text)

abbrev pub parts_in : List ℕ → Number
parts_in text =
    let rest = after_whole text in
    record {
      negative = begins_negative text;
      whole = whole_in text;
      fraction = fraction_in rest;
      exponent_negative = begins_negative (drop 1 (after_fraction rest));
      exponent = after_sign (drop 1 (after_fraction rest));
    }

-- the text is a number
abbrev pub is_number : List ℕ → Bool
is_number text =
    nat_lt 0 (length (whole_in text) + length (fraction_in (after_whole text)))
    && is_exponent_or_empty (after_fraction (after_whole text))

-- the number that the text spells
unfoldable pub number_in : List ℕ → Option Number
number_in text = if is_number text then Some (parts_in text) else None

-- the number of billionths where it is a signed 64-bit number
abbrev pub in_range : ℤ → Result ℤ DecimalRefusal
in_range value = if fits value then Ok value else Err Range

abbrev pub answer : Option Number → Result ℤ DecimalRefusal
answer None = Err NotNumber
answer (Some number) = in_range (billionths number)

-- what reading the text answers
abbrev pub reading : List ℕ → Result ℤ DecimalRefusal
reading text = answer (number_in text)
