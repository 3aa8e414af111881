use Rattle.dg_decimal.proofs.Digits.{AllDigits-append}
use Rattle.dg_decimal.proofs.parts.Parts.len.Goals as goal

pub returns-clause-digits : goal.returns-clause-digits
returns-clause-digits c = rw (← c.self.view_is) (AllDigits-append c.self.inside.whole.now c.self.inside.fraction.now c.self.invariant.0 c.self.invariant.1)
