use Rattle.std.proofs.Common.{◌≡◌, ◌≤◌, ◌<◌, ◌*◌, refl, sym, ap, ◌∙◌, arith}
use Rattle.std.specs.Char.{digit_value}
use Rattle.dg_ptext.proofs.Strings.{numeral-more, numeral-full, numeral-other, numeral-end, scaled, room-some, room-more, room-none}
use Rattle.dg_ptext.proofs.escapes.read_numeral.Goals as goal

pub loop-first-init : goal.loop-first-init
loop-first-init c = record { same = refl; within = omega arith; few = omega arith; below = room-none c.args.places }

pub returns-then-left-eq0-clause-numeral : goal.returns-then-left-eq0-clause-numeral
returns-then-left-eq0-clause-numeral c =
    sym (numeral-full c.args.base c.loop-first.left c.loop-first.found.value c.loop-first.found.taken c.loop-first.rest.now c.if-left-eq0.true)
    ∙ c.loop-first.invariant.same

pub returns-in_default-to_digit-clause-numeral : goal.returns-in_default-to_digit-clause-numeral
returns-in_default-to_digit-clause-numeral c =
    let other : c.args.base ≤ digit_value c.in-Some.first.now = omega (arith, ap digit_value c.from.ensures, c.in_default-to_digit.ensures.value) in
    sym (numeral-other c.args.base c.loop-first.left c.loop-first.found.value c.loop-first.found.taken c.in-Some.first.now c.in-Some.behind.now c.loop-first.rest.now (c.in-Some.ensures.cases.0) other)
    ∙ c.loop-first.invariant.same

pub overflow_mul-found : goal.overflow_mul-found
overflow_mul-found c =
    let some : 0 < c.loop-first.left = omega arith in
    omega (arith, c.loop-first.invariant.below, room-some c.loop-first.left some, scaled c.loop-first.found.value c.args.base c.requires.base_to)

pub overflow_add-found : goal.overflow_add-found
overflow_add-found c =
    let some : 0 < c.loop-first.left = omega arith in
    let digit = c.in-Some-to_digit.ensures.value in
    omega (arith, digit.0, digit.1, c.loop-first.invariant.below, room-some c.loop-first.left some, scaled c.loop-first.found.value c.args.base c.requires.base_to)

pub loop-first-preserved : goal.loop-first-preserved
loop-first-preserved c =
    let value = c.in-Some-to_digit.ensures.value in
    let byte = ap digit_value c.from.ensures in
    let digit : digit_value c.in-Some.first.now < c.args.base = omega (arith, value.0, byte) in
    let is : c.in-Some-to_digit.digit ≡ digit_value c.in-Some.first.now = value.1 ∙ byte in
    let some : 0 < c.loop-first.left = omega arith in
    let limit = scaled c.loop-first.found.value c.args.base c.requires.base_to in
    record {
      same = rw is (sym (numeral-more c.args.base c.loop-first.left c.loop-first.found.value c.loop-first.found.taken c.in-Some.first.now c.in-Some.behind.now c.loop-first.rest.now (c.in-Some.ensures.cases.0) some digit) ∙ c.loop-first.invariant.same);
      within = omega (arith, c.in-Some.ensures.cases.1);
      few = omega arith;
      below = room-more c.loop-first.left c.loop-first.found.value (c.loop-first.found.value * c.args.base) c.in-Some-to_digit.digit some
          c.loop-first.invariant.few c.loop-first.invariant.below limit (omega (arith, digit, is));
    }

pub returns-clause-numeral : goal.returns-clause-numeral
returns-clause-numeral c =
    sym (numeral-end c.args.base c.loop-first.left c.loop-first.found.value c.loop-first.found.taken c.loop-first.rest.now c.in_default.ensures.cases)
    ∙ c.loop-first.invariant.same
