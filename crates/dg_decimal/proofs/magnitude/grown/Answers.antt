use Rattle.std.proofs.Common.{◌≡◌, ◌+◌, ◌*◌, ◌-◌, ℕ, List, ◌∷◌, min, drop, get_or, sym, ◌∙◌, ap, arith, rules}
use Rattle.std.proofs.lemmas.List.{drop_more}
use Rattle.std.proofs.lemmas.Str.{digit_value_digit}
use Rattle.std.proofs.lemmas.Str.Parse.{digit_from_value}
use Rattle.std.specs.Char.{digit_value}
use Rattle.std.specs.Str.Parse.{AllDigits, digits_value_after}
use Rattle.dg_decimal.specs.declared.magnitude.TheConstants.{CAP}
use Rattle.dg_decimal.proofs.Digits.{value-capped}
use Rattle.dg_decimal.proofs.magnitude.grown.Goals as goal

-- one digit more, of those that are left
step : (v digit next : ℕ) (rest all : List ℕ) → all ≡ digit ∷ rest → AllDigits 10 all → next ≡ min (v * 10 + (digit - 48)) CAP
    → AllDigits 10 rest × (min (digits_value_after 10 next rest) CAP ≡ min (digits_value_after 10 v all) CAP)
step v digit next rest all e digits is =
    let here = rw e at digits in
    let range = digit_from_value digit here.0 in
    let value : v * 10 + digit_value digit ≡ v * 10 + (digit - 48) = omega (arith, digit_value_digit digit range, range) in (
      here.1,
      rw (is, e) (sym (value-capped CAP (v * 10 + (digit - 48)) rest)
          ∙ ap (λ (n : ℕ). min (digits_value_after 10 n rest) CAP) (sym value)),
    )

pub loop-digit-preserved : goal.loop-digit-preserved
loop-digit-preserved c =
    let i = c.loop-digit.digit-index in
    let ds = c.args.digits.now in
    let next : c.min-value.result ≡ min (c.loop-digit.value * 10 + (get_or ds i 0 - 48)) CAP = search rules in
    let more = step c.loop-digit.value (get_or ds i 0) c.min-value.result (drop (i + 1) ds) (drop i ds)
    (drop_more ds i 0 (omega arith)) c.loop-digit.invariant.digits next in
    record { small = omega arith; digits = more.0; same = more.1 ∙ c.loop-digit.invariant.same }
