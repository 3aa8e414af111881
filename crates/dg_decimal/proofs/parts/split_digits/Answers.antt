use Rattle.dg_decimal.proofs.Digits.{AllDigits-take_while}
use Rattle.dg_decimal.proofs.parts.split_digits.Goals as goal

pub returns-clause-all : goal.returns-clause-all
returns-clause-all c =
    rw (c.split_at.ensures.front, c.digit_count.ensures.count) (AllDigits-take_while c.args.text.now)
