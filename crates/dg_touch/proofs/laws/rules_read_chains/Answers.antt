use Rattle.dg_touch.proofs.Reading.{rule_of-read}
use Rattle.dg_touch.proofs.laws.rules_read_chains.Goals as goal

pub returns : goal.returns
returns g c before after e same = rule_of-read g.S.Schema.tables before after e same
