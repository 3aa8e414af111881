use Rattle.std.proofs.Common.{◌≡◌, ◌-◌, ℕ, List, ◌++◌, length, min, take}
use Rattle.std.specs.Str.Parse.{digits_value, digits_value_after}
use Rattle.dg_decimal.specs.declared.magnitude.TheConstants.{CAP}
use Rattle.dg_decimal.proofs.Digits.{AllDigits-take, value_front}
use Rattle.dg_decimal.proofs.parts.Parts.front.Goals as goal

pub grown-value-requires-clause-digits : goal.grown-value-requires-clause-digits
grown-value-requires-clause-digits c = AllDigits-take c.min-whole.result c.self.inside.whole.now c.self.invariant.0

pub grown-requires-clause-digits : goal.grown-requires-clause-digits
grown-requires-clause-digits c = AllDigits-take (c.args.count - c.min-whole.result) c.self.inside.fraction.now c.self.invariant.1

-- the value of the front, from the two halves
halves : (count whole value all : ℕ) (ws fs : List ℕ) → whole ≡ min count (length ws)
    → value ≡ min (digits_value 10 (take whole ws)) CAP → all ≡ min (digits_value_after 10 value (take (count - whole) fs)) CAP
    → all ≡ min (digits_value 10 (take count (ws ++ fs))) CAP
halves count whole value all ws fs w v a = rw a (rw v (rw w (value_front CAP count ws fs)))

pub returns : goal.returns
returns c =
    rw (← c.self.view_is) (halves c.args.count c.min-whole.result c.grown-value.result c.grown.result c.self.inside.whole.now c.self.inside.fraction.now
    c.min-whole.ensures c.grown-value.ensures c.grown.ensures)
