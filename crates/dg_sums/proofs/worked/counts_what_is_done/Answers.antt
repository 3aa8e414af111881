use Rattle.std.proofs.Common.{refl}
use Rattle.std.specs.Fmt.{digits}
use Rattle.dg_sums.proofs.worked.counts_what_is_done.Goals as goal

pub returns : goal.returns
unfolding digits
returns c = refl
