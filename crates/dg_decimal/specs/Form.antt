-- Which texts are decimal numbers, production by production.
use Rattle.std.specs.Prelude.{◌≡◌, ℕ, ◌+◌, ◌<◌, ◌⊎◌, Bool, true, false, List, [], ◌∷◌, ◌++◌, length}
use Rattle.std.specs.Str.Parse.{AllDigits}

-- The bytes that have a meaning beside the digits.
abbrev pub plus : ℕ
plus = 43

abbrev pub minus : ℕ
minus = 45

abbrev pub point : ℕ
point = 46

abbrev pub capital_e : ℕ
capital_e = 69

abbrev pub small_e : ℕ
small_e = 101

-- What a text says: its digits as they stand there, before and after the point and in the exponent, and the two signs.
pub record Number : Type 0 where
  pub negative : Bool
  pub whole : List ℕ
  pub fraction : List ℕ
  pub exponent_negative : Bool
  pub exponent : List ℕ

-- A sign is a minus where what follows is negative, and else a plus or nothing.
abbrev pub IsSign : Bool → List ℕ → Type 0
IsSign true text = text ≡ minus ∷ []
IsSign false text = (text ≡ []) ⊎ (text ≡ plus ∷ [])

-- A fraction is a point and its digits, which may be none, or it is left out whole.
abbrev pub IsFraction : List ℕ → List ℕ → Type 0
IsFraction digits text = (text ≡ point ∷ digits) ⊎ ((text ≡ []) × (digits ≡ []))

-- A written exponent is an `e` of either case, a sign and at least one digit.
pub record IsPower (negative : Bool) (digits text : List ℕ) : Type 0 where
  pub letter : ℕ
  pub sign : List ℕ
  pub is_letter : (letter ≡ small_e) ⊎ (letter ≡ capital_e)
  pub is_sign : IsSign negative sign
  pub some_digit : 0 < length digits
  pub joined : text ≡ letter ∷ (sign ++ digits)

-- An exponent that is left out is plus nothing.
abbrev pub IsExponent : Bool → List ℕ → List ℕ → Type 0
IsExponent negative digits text =
    IsPower negative digits text ⊎ ((text ≡ []) × (negative ≡ false) × (digits ≡ []))

-- The text spells the number: a sign, digits, a fraction and an exponent, one after the other, with at least one
-- digit before the exponent.
pub record Spells (text : List ℕ) (number : Number) : Type 0 where
  pub sign : List ℕ
  pub fraction : List ℕ
  pub exponent : List ℕ
  pub is_sign : IsSign number.negative sign
  pub whole_digits : AllDigits 10 number.whole
  pub is_fraction : IsFraction number.fraction fraction
  pub fraction_digits : AllDigits 10 number.fraction
  pub some_digit : 0 < length number.whole + length number.fraction
  pub is_exponent : IsExponent number.exponent_negative number.exponent exponent
  pub exponent_digits : AllDigits 10 number.exponent
  pub joined : text ≡ sign ++ (number.whole ++ (fraction ++ exponent))
