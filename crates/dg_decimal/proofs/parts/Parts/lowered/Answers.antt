use Rattle.std.proofs.Common.{◌≡◌, ◌+◌, ◌-◌, ◌^◌, ◌≤◌, ◌<◌, ℕ, ◌++◌, length, min, take, get_or, sym, ◌∙◌, ap, arith, length-append}
use Rattle.std.specs.Str.Parse.{digits_value}
use Rattle.dg_decimal.specs.Value.{nearest}
use Rattle.dg_decimal.specs.declared.magnitude.TheConstants.{CAP}
use Rattle.dg_decimal.proofs.Rounding.{nearest_none, nearest_down, nearest_up}
use Rattle.dg_decimal.proofs.parts.Parts.lowered.Goals as goal

pub returns-then-tens-all : goal.returns-then-tens-all
returns-then-tens-all c =
    let ds = c.args.self.now.whole ++ c.args.self.now.fraction in
    let short : length ds < c.args.tens = omega (arith, length-append c.args.self.now.whole c.args.self.now.fraction, c.len-all.ensures.len) in
    let e = nearest_none ds c.args.tens c.len-all.ensures.digits short in
    omega (arith, e)

pub returns-then-digit-lt53 : goal.returns-then-digit-lt53
returns-then-digit-lt53 c =
    let ds = c.args.self.now.whole ++ c.args.self.now.fraction in
    let kept = c.len-all.result - c.args.tens in
    let all = length-append c.args.self.now.whole c.args.self.now.fraction in
    let back : length ds - kept ≡ c.args.tens = omega (arith, all, c.len-all.ensures.len) in
    let low : get_or ds kept 0 < 53 = omega (arith, c.digit.ensures) in
    let e = nearest_down ds kept c.len-all.ensures.digits (omega (arith, all, c.len-all.ensures.len)) low in
    c.front-front.ensures ∙ ap (λ (v : ℕ). min v CAP) (sym e ∙ ap (λ (k : ℕ). nearest (digits_value 10 ds) (10 ^ k)) back)

pub returns-else-digit-lt53 : goal.returns-else-digit-lt53
returns-else-digit-lt53 c =
    let ds = c.args.self.now.whole ++ c.args.self.now.fraction in
    let kept = c.len-all.result - c.args.tens in
    let all = length-append c.args.self.now.whole c.args.self.now.fraction in
    let back : length ds - kept ≡ c.args.tens = omega (arith, all, c.len-all.ensures.len) in
    let high : 53 ≤ get_or ds kept 0 = omega (arith, c.digit.ensures) in
    let e = nearest_up ds kept c.len-all.ensures.digits (omega (arith, all, c.len-all.ensures.len)) high in
    let capped : c.min.result ≡ min (digits_value 10 (take kept ds) + 1) CAP = omega (arith, c.front-front.ensures, c.min.ensures) in
    capped ∙ ap (λ (v : ℕ). min v CAP) (sym e ∙ ap (λ (k : ℕ). nearest (digits_value 10 ds) (10 ^ k)) back)
