use Rattle.std.proofs.Common.{◌≤◌, drop, length, arith}
use Rattle.dg_sums.proofs.Turns.{deeds-all_lines}
use Rattle.dg_sums.proofs.counts.deeds_in.Goals as goal

pub returns-else-place-lines : goal.returns-else-place-lines
returns-else-place-lines c =
    let end : length c.args.lines.now ≤ c.loop-place.place = omega (arith, c.if-place-lines.false) in
    omega (arith, deeds-all_lines c.args.deed (drop c.loop-place.place c.args.commands.now) c.args.lines.now c.loop-place.place end, c.loop-place.invariant.0)
