use Rattle.dg_walks.proofs.Hits.{hits_enough}
use Rattle.dg_walks.proofs.laws.hits_are_enough.Goals as goal

pub returns : goal.returns
returns g c graph known e = hits_enough g.S.Schema.tables graph known e
