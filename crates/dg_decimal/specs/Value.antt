-- The exact value of a number, and the whole number of billionths that it is rounded to.
use Rattle.std.specs.Prelude.{ℕ, ◌+◌, ◌*◌, ◌/◌, ◌^◌, Bool, ◌++◌, length, ℤ, pos, negsuc, neg_ℤ, nat_lt, if◌then◌else◌}
use Rattle.std.specs.Str.Parse.{digits_value}
use Rattle.dg_decimal.specs.Form.{Number}

-- how many of the smallest unit one is: all values are whole multiples of a billionth
abbrev pub billion : ℕ
billion = 1000000000

-- by how many powers of ten the exponent raises the number, and by how many it lowers it
abbrev pub raised_by : Number → ℕ
raised_by n = if n.exponent_negative then 0 else digits_value 10 n.exponent

abbrev pub lowered_by : Number → ℕ
lowered_by n = if n.exponent_negative then digits_value 10 n.exponent else 0

-- The exact number of billionths, without its sign, is this numerator over this power of ten: all digits as one whole
-- number, each digit of the fraction a tenth.
abbrev pub numerator : Number → ℕ
numerator n = digits_value 10 (n.whole ++ n.fraction) * 10 ^ (9 + raised_by n)

abbrev pub denominator : Number → ℕ
denominator n = 10 ^ (length n.fraction + lowered_by n)

-- the whole number nearest to a quotient, and of two that are as near the greater: without the sign, away from zero
abbrev pub nearest : ℕ → ℕ → ℕ
nearest numerator denominator = (2 * numerator + denominator) / (2 * denominator)

-- a magnitude with a sign put before it
abbrev pub with_sign : Bool → ℕ → ℤ
with_sign negative magnitude = if negative then neg_ℤ (pos magnitude) else pos magnitude

-- how many billionths the number is, rounded once
abbrev pub billionths : Number → ℤ
billionths n = with_sign n.negative (nearest (numerator n) (denominator n))

-- the number is one of the signed 64-bit numbers
abbrev pub fits : ℤ → Bool
fits (pos n) = nat_lt n (2 ^ 63)
fits (negsuc n) = nat_lt n (2 ^ 63)
