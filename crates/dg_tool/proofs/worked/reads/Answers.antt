use Rattle.std.proofs.Common.{refl}
use Rattle.std.specs.Fmt.{digits}
use Rattle.dg_load.specs.Loads.{all_parts}
use Rattle.std.specs.Char.{encode_utf8}
use Rattle.std.specs.Str.{chars, is_utf8}
use Rattle.dg_tool.proofs.worked.reads.Goals as goal

pub returns-clause-empty : goal.returns-clause-empty
unfolding all_parts chars is_utf8 encode_utf8
returns-clause-empty c = (refl, refl)

pub returns-clause-unclosed : goal.returns-clause-unclosed
unfolding all_parts digits chars is_utf8 encode_utf8
returns-clause-unclosed c = refl
