-- Numbers of billionths are kept in 64 bits.
use Rattle.std.specs.Prelude.{ℤ, Bool, ◌&&◌, IsTrue, OkIff, Result}
use Rattle.dg_base.specs.declared.datum.V3.{V3}
use Rattle.dg_base.specs.declared.datum.V4.{V4}
use Rattle.dg_decimal.specs.Value.{fits}

-- each number of a vector is in 64 bits
abbrev pub fits3 : V3 → Bool
fits3 v = fits v.x && (fits v.y && fits v.z)

abbrev pub fits4 : V4 → Bool
fits4 v = fits v.x && (fits v.y && (fits v.z && fits v.w))

-- a result that is a number, and is refused exactly where that isn't in 64 bits
abbrev pub IsNarrowed : {E : Type 0} → Result ℤ E → ℤ → Type 0
IsNarrowed r n = OkIff r (IsTrue (fits n)) n
