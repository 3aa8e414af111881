use Rattle.std.proofs.Common.{refl}
use Rattle.std.specs.Fmt.{digits}
use Rattle.dg_report.specs.Parts.{name_of}
use Rattle.dg_report.proofs.worked.prints_faults.Goals as goal

pub returns : goal.returns
unfolding digits name_of
returns c = refl
