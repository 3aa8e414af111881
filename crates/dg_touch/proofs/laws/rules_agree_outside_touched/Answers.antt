use Rattle.dg_touch.proofs.TransactRules.{accepted-rules}
use Rattle.dg_touch.proofs.laws.rules_agree_outside_touched.Goals as goal

pub returns : goal.returns
returns g c graph next ss a accepted e out = accepted-rules accepted g.met.S.Schema.laws e out
