use Rattle.std.proofs.Common.{◌≡◌, ◌*◌, ◌^◌, ℕ, List, ◌++◌, min, ◌∙◌, ap, arith, length-append}
use Rattle.std.specs.Str.Parse.{digits_value}
use Rattle.dg_decimal.specs.declared.magnitude.TheConstants.{CAP}
use Rattle.std.proofs.lemmas.List.{take_all}
use Rattle.dg_decimal.proofs.Rounding.{raised-front}
use Rattle.dg_decimal.proofs.parts.Parts.raised.Goals as goal

-- the raised number, from the front and the power
product : (value tens front power all : ℕ) → front ≡ min value CAP → power ≡ 10 ^ min tens 19 → all ≡ min (front * power) CAP
    → all ≡ min (value * 10 ^ tens) CAP
product value tens front power all f p a = rw a (rw f (rw p (raised-front value tens)))

pub returns : goal.returns
returns c =
    let ds = c.args.self.now.whole ++ c.args.self.now.fraction in
    let whole = take_all c.len.result ds (omega (arith, length-append c.args.self.now.whole c.args.self.now.fraction, c.len.ensures.len)) in
    product (digits_value 10 ds) c.args.tens c.front.result c.pow-power.result c.min-2.result
    (c.front.ensures ∙ ap (λ (xs : List ℕ). min (digits_value 10 xs) CAP) whole)
    (c.pow-power.ensures ∙ ap (λ (k : ℕ). 10 ^ k) c.min.ensures) c.min-2.ensures
