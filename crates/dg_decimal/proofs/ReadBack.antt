-- The canonical text of a value spells a number whose value it is.
use Rattle.std.proofs.Common.{◌≡◌, ℕ, ◌+◌, ◌-◌, ◌*◌, ◌/◌, ◌%◌, ◌^◌, ◌<◌, Bool, true, false, List, [], ◌∷◌, ◌++◌, length, Ok, Err, refl, sym, ◌∙◌, ap, inl, inr, ⊎_elim, arith, append-nil, add-one}
use Rattle.std.proofs.Math.Nat.{div-add-mod', add-zero}
use Rattle.std.proofs.lemmas.Bool.{cases_Bool, lt-ltb, cond-true, eqb-true}
use Rattle.std.proofs.lemmas.Fmt.{decimal_is_IsNumeral}
use Rattle.std.proofs.lemmas.Nat.{pow-add}
use Rattle.std.specs.Fmt.{decimal}
use Rattle.std.specs.Int.{w64}
use Rattle.std.specs.Prelude.{ℤ, pos, negsuc, neg_ℤ, FitsSigned, ◌==◌, if◌then◌else◌}
use Rattle.std.specs.Str.Parse.{AllDigits, digits_value}
use Rattle.dg_decimal.specs.declared.refusal.DecimalRefusal.TheVariants.{Range}
use Rattle.dg_decimal.specs.Form.{Number, Spells, IsSign, IsFraction, minus}
use Rattle.dg_decimal.specs.Value.{billion, nearest, numerator, denominator, fits}
use Rattle.dg_decimal.specs.Reading.{reading, in_range}
use Rattle.dg_decimal.specs.Canonical.{canonical, magnitude_text, fraction_text, fraction_digits, padded_digits}
use Rattle.dg_decimal.proofs.Digits.{value-append, value_after}
use Rattle.dg_decimal.proofs.Rounding.{nearest_raised}
use Rattle.dg_decimal.proofs.Trimmed.{zeros, AllDigits-without_zeros, AllDigits-padded, digits_value-padded, length-padded}
use Rattle.dg_decimal.proofs.Grammar.{reading-spelled}

-- the fraction's digits, none where the rest is 0
abbrev digits_of_rest : ℕ → List ℕ
digits_of_rest rest = if rest == 0 then [] else fraction_digits rest

abbrev sign_text : Bool → List ℕ
sign_text negative = if negative then minus ∷ [] else []

abbrev number_of : Bool → ℕ → Number
number_of negative magnitude = record {
  negative = negative;
  whole = decimal (magnitude / billion);
  fraction = digits_of_rest (magnitude % billion);
  exponent_negative = false;
  exponent = [];
}

sign_is : (negative : Bool) → IsSign negative (sign_text negative)
sign_is true = refl
sign_is false = inl refl

fraction_is : (rest : ℕ) → IsFraction (digits_of_rest rest) (fraction_text rest)
fraction_is rest = ⊎_elim
    (λ (e : (rest == 0) ≡ true). rw e (inr (refl, refl)))
    (λ (e : (rest == 0) ≡ false). rw e (inl refl))
    (cases_Bool (rest == 0))

-- what a rest's digits are: few, and the rest once zeros make up for the places
record Fraction (rest : ℕ) (ds : List ℕ) : Type 0 where
  digits : AllDigits 10 ds
  zeros_left : ℕ
  places : length ds + zeros_left ≡ 9
  value : digits_value 10 ds * 10 ^ zeros_left ≡ rest

trimmed : (rest : ℕ) → rest < billion → Fraction rest (fraction_digits rest)
unfolding fraction_digits
trimmed rest below =
    let z = zeros (padded_digits 9 rest) in
    record {
      digits = AllDigits-without_zeros (padded_digits 9 rest) (AllDigits-padded 9 rest below);
      zeros_left = z.count;
      places = z.places ∙ length-padded 9 rest;
      value = sym z.value ∙ digits_value-padded 9 rest below;
    }

fraction_of : (rest : ℕ) → rest < billion → Fraction rest (digits_of_rest rest)
fraction_of rest below = ⊎_elim
    (λ (e : (rest == 0) ≡ true). rw e (record { digits = tt; zeros_left = 9; places = refl; value = sym (eqb-true rest 0 e) }))
    (λ (e : (rest == 0) ≡ false). rw e (trimmed rest below))
    (cases_Bool (rest == 0))

spelled : (negative : Bool) (magnitude : ℕ) → magnitude < 2 ^ 64
    → Spells (sign_text negative ++ magnitude_text magnitude) (number_of negative magnitude)
spelled negative magnitude small =
    let whole = decimal_is_IsNumeral (magnitude / billion) (omega (arith, small)) in
    let fraction = fraction_of (magnitude % billion) (omega arith) in
    let back : fraction_text (magnitude % billion) ≡ fraction_text (magnitude % billion) ++ [] = sym (append-nil (fraction_text (magnitude % billion))) in
    record {
      sign = sign_text negative;
      fraction = fraction_text (magnitude % billion);
      exponent = [];
      is_sign = sign_is negative;
      whole_digits = whole.0.1;
      is_fraction = fraction_is (magnitude % billion);
      fraction_digits = fraction.digits;
      some_digit = omega (arith, whole.0.0);
      is_exponent = inr (refl, refl, refl);
      exponent_digits = tt;
      joined = ap (λ (t : List ℕ). sign_text negative ++ (decimal (magnitude / billion) ++ t)) back;
    }

-- whole part and rest, put together again
whole_and_rest : (whole rest zeros_left : ℕ) (ws ds : List ℕ) → digits_value 10 ws ≡ whole → length ds + zeros_left ≡ 9
    → digits_value 10 ds * 10 ^ zeros_left ≡ rest
    → nearest (digits_value 10 (ws ++ ds) * 10 ^ 9) (10 ^ length ds) ≡ whole * 10 ^ 9 + rest
whole_and_rest whole rest zeros_left ws ds w p v =
    let joined = value-append 0 ws ds ∙ value_after (digits_value 10 ws) ds in
    let left : 9 - length ds ≡ zeros_left = omega (arith, p) in
    let tens : 10 ^ 9 ≡ 10 ^ length ds * 10 ^ zeros_left = ap (λ (n : ℕ). 10 ^ n) (sym p) ∙ pow-add 10 (length ds) zeros_left in
    nearest_raised (digits_value 10 (ws ++ ds)) 9 (length ds) (omega (arith, p))
    ∙ (ap (λ (n : ℕ). digits_value 10 (ws ++ ds) * 10 ^ n) left
    ∙ (ap (λ (n : ℕ). n * 10 ^ zeros_left) joined ∙ omega (arith, w, v, ap (λ (n : ℕ). digits_value 10 ws * n) tens)))

value_back : (negative : Bool) (magnitude : ℕ) → magnitude < 2 ^ 64
    → nearest (numerator (number_of negative magnitude)) (denominator (number_of negative magnitude)) ≡ magnitude
value_back negative magnitude small =
    let whole = decimal_is_IsNumeral (magnitude / billion) (omega (arith, small)) in
    let fraction = fraction_of (magnitude % billion) (omega arith) in
    let ds = digits_of_rest (magnitude % billion) in
    ap (λ (n : ℕ). nearest (digits_value 10 (decimal (magnitude / billion) ++ ds) * 10 ^ 9) (10 ^ n)) (add-zero (length ds))
    ∙ (whole_and_rest (magnitude / billion) (magnitude % billion) fraction.zeros_left (decimal (magnitude / billion)) ds
    whole.1 fraction.places fraction.value
    ∙ div-add-mod' magnitude billion)

pub reading-canonical : (value : ℤ) → FitsSigned w64 value → reading (canonical value) ≡ Ok value
reading-canonical (pos n) f =
    reading-spelled (canonical (pos n)) (number_of false n) (spelled false n (omega (arith, f.sfits)))
    ∙ (ap (λ (m : ℕ). in_range (pos m)) (value_back false n (omega (arith, f.sfits)))
    ∙ cond-true (fits (pos n)) (Ok (pos n)) (Err Range) (lt-ltb n (2 ^ 63) f.sfits))
reading-canonical (negsuc n) f =
    reading-spelled (canonical (negsuc n)) (number_of true (n + 1)) (spelled true (n + 1) (omega (arith, f.sfits)))
    ∙ (ap (λ (m : ℕ). in_range (neg_ℤ (pos m))) (value_back true (n + 1) (omega (arith, f.sfits)) ∙ add-one n)
    ∙ cond-true (fits (negsuc n)) (Ok (negsuc n)) (Err Range) (lt-ltb n (2 ^ 63) f.sfits))
