use Rattle.std.proofs.Common.{ℕ, ◌++◌, min, sym, ◌∙◌, ap, arith}
use Rattle.std.specs.Str.Parse.{digits_value}
use Rattle.dg_decimal.specs.declared.magnitude.TheConstants.{CAP}
use Rattle.dg_decimal.proofs.Rounding.{nearest_raised, nearest_lowered}
use Rattle.dg_decimal.proofs.parts.Parts.scaled.Goals as goal

pub returns-then-down-up : goal.returns-then-down-up
returns-then-down-up c =
    let value = digits_value 10 (c.args.self.now.whole ++ c.args.self.now.fraction) in
    c.raised.ensures ∙ ap (λ (v : ℕ). min v CAP) (sym (nearest_raised value c.args.up c.args.down c.if-down-up.true))

pub returns-else-down-up : goal.returns-else-down-up
returns-else-down-up c =
    let value = digits_value 10 (c.args.self.now.whole ++ c.args.self.now.fraction) in
    c.lowered.ensures ∙ ap (λ (v : ℕ). min v CAP) (sym (nearest_lowered value c.args.up c.args.down (omega arith)))
