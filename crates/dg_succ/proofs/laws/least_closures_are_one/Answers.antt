use Rattle.dg_succ.proofs.Leasts.{least-one}
use Rattle.dg_succ.proofs.laws.least_closures_are_one.Goals as goal

pub returns : goal.returns
returns c ps es ds fs a b = least-one ps es ds fs a b
