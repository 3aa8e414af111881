use Rattle.dg_succ.proofs.Leasts.{least-dirty}
use Rattle.dg_succ.proofs.laws.dirty_is_a_closure.Goals as goal

pub returns : goal.returns
returns g c graph ps are es ds s = least-dirty g.S.Schema.tables graph ps are es ds s
