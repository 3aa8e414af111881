use Rattle.dg_geom.specs.Composition.{composition}
use Rattle.dg_kinds_coll.proofs.Moving.{some_at, none_at}
use Rattle.dg_kinds_coll.proofs.entries.composition.Goals as goal

pub returns-in-Ok : goal.returns-in-Ok
unfolding composition
returns-in-Ok c = some_at _ _ _ c.in-Ok.ensures

pub returns-in-Err : goal.returns-in-Err
unfolding composition
returns-in-Err c = none_at _ _ c.in-Err.ensures
