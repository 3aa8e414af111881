use Rattle.dg_laws.proofs.Fuel.{value-rule}
use Rattle.dg_laws.proofs.laws.values_follow_rules.Goals as goal

pub returns : goal.returns
returns g c graph sound e = value-rule sound g.met.S.Schema.laws e
