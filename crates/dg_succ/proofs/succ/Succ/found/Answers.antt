use Rattle.std.proofs.Common.{rules, ◌<◌, length, arith}
use Rattle.dg_succ.proofs.Walking.{walked-first, walked-next, walked-end, few}
use Rattle.dg_succ.proofs.succ.Succ.found.Goals as goal

pub loop-place-init : goal.loop-place-init
loop-place-init c = walked-first c.new-found.result.keys c.add_all.new.found.keys (search rules) (search rules)

pub loop-place-smaller : goal.loop-place-smaller
loop-place-smaller c =
    let most = few c.loop-place.found.keys c.loop-place.place c.loop-place.invariant c.len.ensures.unique in
    let below : c.loop-place.place < length c.loop-place.found.keys = search rules in
    omega (arith, most, below)

pub loop-place-preserved : goal.loop-place-preserved
loop-place-preserved c = walked-next c.loop-place.found.keys c.add_ends.new.found.keys c.loop-place.place c.in-Some.here.now c.loop-place.invariant (search rules) (search rules) (search rules)

pub returns : goal.returns
returns c = walked-end c.loop-place.found.keys c.loop-place.place c.loop-place.invariant (search rules)
