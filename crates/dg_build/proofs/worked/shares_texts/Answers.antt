use Rattle.std.specs.Fmt.{digits}
use Rattle.dg_base.specs.declared.datum.Datum.{items_hidden-the_row-Datum-0, items_hidden-the_row-FieldOf-1}
use Rattle.dg_decimal.specs.Canonical.{fraction_digits}
use Rattle.dg_report.specs.Parts.{name_of, number_text}
use Rattle.dg_text.specs.Quoted.{escaped}
use Rattle.dg_build.proofs.worked.shares_texts.Goals as goal

pub returns : goal.returns
unfolding digits fraction_digits name_of number_text escaped
returns c = simp (items_hidden-the_row-Datum-0, items_hidden-the_row-FieldOf-1)
