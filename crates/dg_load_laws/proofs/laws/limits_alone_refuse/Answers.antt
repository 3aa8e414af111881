use Rattle.dg_load_laws.proofs.Whole.{limits_alone}
use Rattle.dg_load_laws.proofs.laws.limits_alone_refuse.Goals as goal

pub returns : goal.returns
returns c = limits_alone
