-- The exact results that are rounded or refused.
use Rattle.std.specs.Prelude.{ℤ, ◌*ℤ◌, unsigned_abs, int_lt, pos}
use Rattle.dg_decimal.specs.Value.{billion, nearest, with_sign}

-- the product of two numbers of billionths in billionths: the product over a billion, rounded once
abbrev pub product : ℤ → ℤ → ℤ
product a b = with_sign (int_lt (a *ℤ b) (pos 0)) (nearest (unsigned_abs (a *ℤ b)) billion)
