use Rattle.std.proofs.Common.{sym}
use Rattle.dg_pmap.proofs.Places.{lookup-found, lookup-gap}
use Rattle.dg_pmap.proofs.entries.value_of.Goals as goal

pub returns-in-Ok : goal.returns-in-Ok
returns-in-Ok g c = sym (lookup-found g.K.Ord.cmp c.args.key.now _ c.in-Ok.at c.index-entries-at.result c.in-Ok.ensures.found)

pub returns-in-Err : goal.returns-in-Err
returns-in-Err g c = sym (lookup-gap g.K.Ord.cmp c.args.key.now g.met.K.Ord.total _ c.in-Err.field-0 c.requires c.in-Err.ensures.gap)
