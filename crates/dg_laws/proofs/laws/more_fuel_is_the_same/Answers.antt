use Rattle.dg_laws.proofs.Fuel.{more_fuel}
use Rattle.dg_laws.proofs.laws.more_fuel_is_the_same.Goals as goal

pub returns : goal.returns
returns g c graph sound k le e = more_fuel sound g.met.S.Schema.laws k le e
