use Rattle.std.proofs.Common.{refl, ◌∙◌}
use Rattle.std.specs.Fmt.{digits}
use Rattle.dg_decimal.specs.Canonical.{fraction_digits}
use Rattle.dg_report.specs.Parts.{name_of, number_text}
use Rattle.dg_text.specs.Quoted.{escaped}
use Rattle.dg_report.specs.Worked.{one_name}
use Rattle.dg_report.proofs.Rows.{text-List, text-Rec}
use Rattle.dg_report.proofs.worked.prints_values.Goals as goal

pub returns-clause-record_ : goal.returns-clause-record_
unfolding digits fraction_digits name_of number_text escaped
returns-clause-record_ c = text-Rec one_name _ ∙ refl

pub returns-clause-list : goal.returns-clause-list
unfolding digits fraction_digits name_of number_text escaped
returns-clause-list c = text-List one_name _ ∙ refl
