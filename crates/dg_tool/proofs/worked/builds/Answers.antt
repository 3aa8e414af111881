use Rattle.std.proofs.Common.{refl}
use Rattle.std.specs.Fmt.{digits}
use Rattle.dg_load.specs.Loads.{all_parts}
use Rattle.std.specs.Char.{encode_utf8}
use Rattle.std.specs.Str.{chars, is_utf8}
use Rattle.dg_decimal.specs.Canonical.{fraction_digits}
use Rattle.dg_decimal.specs.Reading.{number_in}
use Rattle.dg_report.specs.Parts.{name_of, number_text}
use Rattle.dg_tool.proofs.worked.builds.Goals as goal

pub returns : goal.returns
unfolding all_parts digits chars is_utf8 encode_utf8 number_in fraction_digits name_of number_text
returns c = (refl, refl)
