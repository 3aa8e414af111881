use Rattle.std.proofs.Common.{◌≡◌, ◌+◌, ◌*◌, ◌^◌, ◌<◌, ℕ, List, ◌++◌, length, min, ap, arith}
use Rattle.std.specs.Str.Parse.{AllDigits, digits_value}
use Rattle.dg_decimal.specs.Value.{nearest}
use Rattle.dg_decimal.specs.declared.magnitude.TheConstants.{CAP}
use Rattle.std.proofs.Math.Nat.{add-zero}
use Rattle.dg_decimal.proofs.Digits.{AllDigits-append}
use Rattle.dg_decimal.proofs.Rounding.{exponent-up, exponent-down}
use Rattle.dg_decimal.proofs.parts.Parts.magnitude.Goals as goal

-- the magnitude under a negative exponent, and under another, from the exponent as it was read
lowered : (ws fs es : List ℕ) (exponent all : ℕ) → AllDigits 10 (ws ++ fs) → length ws < 2 ^ 63
    → exponent ≡ min (digits_value 10 es) CAP → all ≡ min (nearest (digits_value 10 (ws ++ fs) * 10 ^ 9) (10 ^ (length fs + exponent))) CAP
    → all ≡ min (nearest (digits_value 10 (ws ++ fs) * 10 ^ 9) (10 ^ (length fs + digits_value 10 es))) CAP
lowered ws fs es exponent all digits short e a =
    rw a (rw e (ap (λ (v : ℕ). min v CAP) (exponent-down ws fs (digits_value 10 es) digits short)))

raised : (ws fs es : List ℕ) (exponent all : ℕ) → length fs < 2 ^ 63
    → exponent ≡ min (digits_value 10 es) CAP → all ≡ min (nearest (digits_value 10 (ws ++ fs) * 10 ^ (9 + exponent)) (10 ^ length fs)) CAP
    → all ≡ min (nearest (digits_value 10 (ws ++ fs) * 10 ^ (9 + digits_value 10 es)) (10 ^ (length fs + 0))) CAP
raised ws fs es exponent all short e a =
    rw a (rw (e, add-zero) (exponent-up (digits_value 10 (ws ++ fs)) (length fs) (digits_value 10 es) short))

pub returns-then-self : goal.returns-then-self
returns-then-self c =
    let p = c.self.inside in
    let e = rw (← c.self.view_is) at c.scaled.ensures in
    rw (← c.self.view_is, c.if-self.true) (lowered p.whole.now p.fraction.now p.exponent.now c.grown-exponent.result c.scaled.result
    (AllDigits-append p.whole.now p.fraction.now c.self.invariant.0 c.self.invariant.1) (omega arith) c.grown-exponent.ensures e)

pub returns-else-self : goal.returns-else-self
returns-else-self c =
    let p = c.self.inside in
    let e = rw (← c.self.view_is) at c.scaled-else-self.ensures in
    rw (← c.self.view_is, c.if-self.false) (raised p.whole.now p.fraction.now p.exponent.now c.grown-exponent.result c.scaled-else-self.result
    (omega arith) c.grown-exponent.ensures e)
