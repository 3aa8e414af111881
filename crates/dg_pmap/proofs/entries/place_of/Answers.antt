use Rattle.std.proofs.Common.{sym}
use Rattle.dg_pmap.proofs.Places.{count_below-found, count_below-gap}
use Rattle.dg_pmap.proofs.entries.place_of.Goals as goal

pub returns-in-Ok-clause-value : goal.returns-in-Ok-clause-value
returns-in-Ok-clause-value g c = sym (count_below-found g.K.Ord.cmp c.args.key.now c.args.entries.now _ c.in-Ok.ensures.found)

pub returns-in-Err-clause-value : goal.returns-in-Err-clause-value
returns-in-Err-clause-value g c = sym (count_below-gap g.K.Ord.cmp c.args.key.now c.args.entries.now _ c.in-Err.ensures.gap)
