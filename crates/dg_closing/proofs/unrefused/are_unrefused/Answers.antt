use Rattle.std.proofs.Common.{◌≡◌, ◌≤◌, true, length, sym, arith}
use Rattle.dg_asks.specs.Told.{is_unrefused}
use Rattle.dg_closing.proofs.Lists.{all-end, all-next}
use Rattle.dg_closing.proofs.unrefused.are_unrefused.Goals as goal

pub loop-event-preserved : goal.loop-event-preserved
loop-event-preserved g c =
    all-next (λ e. is_unrefused e.what ≡ true) c.args.history.now c.loop-event.event-index c.event-item.result c.event-item.is (omega (arith, c.loop-event-test.true)) c.loop-event.invariant
    (sym c.if-not-is_unrefused.ensures)

pub returns : goal.returns
returns g c h =
    let end : length c.args.history.now ≤ c.loop-event.event-index = omega (arith, c.loop-event-test.false) in
    all-end (λ e. is_unrefused e.what ≡ true) c.args.history.now c.loop-event.event-index end c.loop-event.invariant
