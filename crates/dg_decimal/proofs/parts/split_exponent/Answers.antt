use Rattle.std.proofs.Common.{◌≡◌, Bool, ◌&&◌, ◌||◌, false, drop, length, true, rules}
use Rattle.std.specs.Prelude.{nat_lt, ◌==◌, slice_index}
use Rattle.std.specs.List.{list_all}
use Rattle.std.specs.Char.{is_ascii_digit}
use Rattle.std.proofs.lemmas.List.{take_rest}
use Rattle.dg_decimal.specs.Form.{small_e, capital_e}
use Rattle.dg_decimal.specs.Reading.{is_exponent_or_empty, after_sign}
use Rattle.dg_decimal.proofs.Digits.{from_list_all}
use Rattle.dg_decimal.proofs.parts.split_exponent.Goals as goal

-- the three tests that make an exponent
passes : (empty letter some digits : Bool) → letter ≡ true → some ≡ true → digits ≡ true → (empty || (letter && (some && digits))) ≡ true
passes empty letter some digits l s d = rw (l, s, d) (elim empty as (λ (b : Bool). (b || true) ≡ true) [ true ↦ search rules | false ↦ search rules ])

pub returns-else-not-are_digits : goal.returns-else-not-are_digits
returns-else-not-are_digits c =
    let text = c.args.text.now in
    let rest = rw (take_rest text 1) at c.split_sign-negative.ensures.rest in
    let negative = rw (take_rest text 1) at c.split_sign-negative.ensures.negative in
    let digits : list_all is_ascii_digit c.split_sign-negative.result.1.now ≡ true = search rules in
    let some : nat_lt 0 (length c.split_sign-negative.result.1.now) ≡ true = search rules in
    let letter : (slice_index text 0 == small_e || slice_index text 0 == capital_e) ≡ true = search rules in
    let is : is_exponent_or_empty c.args.text.now ≡ true =
    passes (length text == 0) (slice_index text 0 == small_e || slice_index text 0 == capital_e) (nat_lt 0 (length (after_sign (drop 1 text))))
    (list_all is_ascii_digit (after_sign (drop 1 text))) letter (rw rest at some) (rw rest at digits) in
    (is, negative, rest, from_list_all c.split_sign-negative.result.1.now digits)
