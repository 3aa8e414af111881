use Rattle.std.proofs.Common.{arith}
use Rattle.dg_script.proofs.Numbers.{digit_step}
use Rattle.dg_script.proofs.forms.number_of.Goals as goal

pub overflow_mul-number : goal.overflow_mul-number
overflow_mul-number c =
    let step = digit_step c.loop-digit.number c.loop-digit.digit-index c.args.digits.now c.requires c.loop-digit-test.true c.loop-digit.invariant.1 in
    omega (arith, step.1, step.2)

pub overflow_add-number : goal.overflow_add-number
overflow_add-number c =
    let step = digit_step c.loop-digit.number c.loop-digit.digit-index c.args.digits.now c.requires c.loop-digit-test.true c.loop-digit.invariant.1 in
    omega (arith, step.1, step.2, c.from.ensures)
