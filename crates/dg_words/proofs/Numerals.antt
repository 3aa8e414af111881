-- A text of digits is what `parse` reads.
use Rattle.std.specs.Prelude.{◌==◌, Result, Ok, Err, MatchOption}
use Rattle.std.proofs.Common.{◌≡◌, ◌∙◌, ℕ, ◌^◌, ◌<◌, ◌≤◌, Bool, true, false, cond, ◌&&◌, List, [], ◌∷◌, drop, length, arith, refl, ap, subst, rules, leb}
use borrow.Author.Tests.{ne_eqb}
use Rattle.std.proofs.lemmas.Bool.{and_parts}
use Rattle.std.proofs.lemmas.Bool.Decides.{nat_tests}
use Rattle.std.proofs.lemmas.Str.Parse.{digit_from_value, numerals_by_value}
use Rattle.std.specs.List.{list_all}
use Rattle.std.specs.Char.{is_ascii_digit}
use Rattle.std.specs.Result.{result_ok}
use Rattle.std.specs.Str.Parse.{AllDigits, IsNumeral, ParsesUnsigned, digits_value, without_leading_plus}
use Rattle.dg_words.specs.Numbers.{is_number}

all_digits : (text : List ℕ) → list_all is_ascii_digit text ≡ true → AllDigits 10 text
all_digits = (numerals_by_value (λ ds. list_all is_ascii_digit ds ≡ true) (search rules)).to

no_plus : (text : List ℕ) → IsNumeral 10 text → without_leading_plus text ≡ text
no_plus [] numeral = refl
no_plus (d ∷ ds) numeral =
    let plus : (d == 43) ≡ false = ne_eqb _ _ (λ e. omega (arith, digit_from_value d numeral.1.0)) in
    ap (λ (b : Bool). drop (cond b 1 0) (d ∷ ds)) plus

numeral : (text : List ℕ) → is_number text ≡ true → IsNumeral 10 text
numeral text number =
    let parts = and_parts (leb 1 (length text) && leb (length text) 20) (list_all is_ascii_digit text) number in
    let lengths = and_parts (leb 1 (length text)) (leb (length text) 20) parts.0 in
    let some : 0 < length text = grind (arith, nat_tests, lengths.0) in
    (some, all_digits text parts.1)

-- a text of 1 to 20 digits is parsed as its value, where that has at most 64 bits
pub parsed : {E : Type 0} (text : List ℕ) (r : Result ℕ E) → is_number text ≡ true → ParsesUnsigned 64 10 text r →
    MatchOption (result_ok r) (2 ^ 64 ≤ digits_value 10 text) (λ n. n ≡ digits_value 10 text)
parsed text (Ok n) number h = h.1 ∙ ap (digits_value 10) (no_plus text (numeral text number))
parsed text (Err e) number h =
    let same = no_plus text (numeral text number) in
    let fails : (digits_value 10 text < 2 ^ 64) → ⊥ =
    λ low. subst (λ (t : List ℕ). (IsNumeral 10 t × (digits_value 10 t < 2 ^ 64)) → ⊥) same h (numeral text number, low) in
    omega (arith, fails)
