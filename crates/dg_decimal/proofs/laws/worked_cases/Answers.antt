use Rattle.std.proofs.Common.{refl}
use Rattle.std.specs.Fmt.{digits}
use Rattle.dg_decimal.specs.Canonical.{fraction_digits}
use Rattle.dg_decimal.proofs.laws.worked_cases.Goals as goal

pub returns-clause-printed : goal.returns-clause-printed
unfolding digits fraction_digits
returns-clause-printed c = refl

pub returns-clause-printed_whole : goal.returns-clause-printed_whole
unfolding digits fraction_digits
returns-clause-printed_whole c = refl
