use Rattle.std.proofs.Common.{◌≡◌, ◌-◌, suc, false, drop, sym, ◌∙◌, subst, arith}
use Rattle.std.specs.List.{Contains}
use Rattle.dg_desk.specs.Machine.{is_listed}
use Rattle.dg_desk.specs.Places.{pins_at}
use Rattle.dg_desk.proofs.Places.{placed-among, placed_turn}
use Rattle.dg_desk.proofs.records.found_in.Goals as goal

pub returns-then-index : goal.returns-then-index
returns-then-index g c =
    let ps = pins_at c.args.opened.now c.args.history.now c.args.places.now in
    let some = c.loop-place-test.true in let most = c.loop-place.auto.place in (
      subst (Contains ps) (sym c.ticket_at-ticket.ensures) (placed-among c.args.opened.now c.args.history.now c.args.places.now (c.loop-place.place - 1) (omega (arith, some, most))),
      sym c.index.ensures ∙ c.if-index.true,
    )

pub loop-place-preserved : goal.loop-place-preserved
loop-place-preserved g c =
    let ps = pins_at c.args.opened.now c.args.history.now c.args.places.now in
    let some = c.loop-place-test.true in let most = c.loop-place.auto.place in
    let next : c.loop-place.place ≡ suc (c.loop-place.place - 1) = omega (arith, some) in
    placed_turn c.args.opened.now c.args.history.now c.args.index c.args.places.now (c.loop-place.place - 1) c.ticket_at-ticket.result.now (omega (arith, some, most)) c.ticket_at-ticket.ensures
    (λ e. c.if-index.false (c.index.ensures ∙ e)) (subst (λ n. is_listed (drop n ps) c.args.index ≡ false) next c.loop-place.invariant)

pub returns : goal.returns
returns g c =
    let none = c.loop-place-test.false in
    let zero_is : c.loop-place.place ≡ 0 = omega (arith, none) in
    subst (λ n. is_listed (drop n (pins_at c.args.opened.now c.args.history.now c.args.places.now)) c.args.index ≡ false) zero_is c.loop-place.invariant
