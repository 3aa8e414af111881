use Rattle.std.proofs.Common.{◌≡◌, ◌∙◌, ◌≤◌, ◌<◌, List, IfOk, ap, length, rules, sym, subst, vec_len, arith}
use Rattle.dg_play.specs.declared.pins.Pin.{Pin}
use Rattle.dg_play.specs.Pins.{max_pins}
use Rattle.dg_play.specs.Seen.{number_named, reply_by, state_by}
use Rattle.dg_play.specs.Play.{Turn}
use Rattle.dg_play.proofs.Works.{moves-same}
use Rattle.dg_play.proofs.Changes.{none-there, turn-free, turn-full, turn-used}
use Rattle.dg_play.proofs.pinning.pin.Goals as goal

pub returns-then-is_some-clause-turn : goal.returns-then-is_some-clause-turn
returns-then-is_some-clause-turn g c =
    let named = sym (c.number_named.ensures ∙ ap (λ (ps : List Pin). number_named ps c.args.name.now) c.as_slice.ensures.value) in
    turn-used g.P.Session.shows c.args.state.now c.args.name.now c.number_named.result named (sym c.is_some.ensures ∙ c.if-is_some.true) c.requires.pins

pub returns-then-is_some-clause-work : goal.returns-then-is_some-clause-work
returns-then-is_some-clause-work g c = moves-same g.P.Session.shows g.P.Session.has_done c.args.state.now.session

pub returns-then-len-ge-MAX_PINS-clause-turn : goal.returns-then-len-ge-MAX_PINS-clause-turn
returns-then-len-ge-MAX_PINS-clause-turn g c =
    let named = sym (c.number_named.ensures ∙ ap (λ (ps : List Pin). number_named ps c.args.name.now) c.as_slice.ensures.value) in
    let none = none-there g.P.Session.shows c.number_named.result (sym c.is_some.ensures ∙ c.if-is_some.false) in
    let long : vec_len c.args.state.now.pins ≡ length c.args.state.now.pins.items = search rules in
    let full : max_pins ≤ length c.args.state.now.pins.items = omega (arith, c.if-len-ge-MAX_PINS.true, c.len.ensures, long) in
    turn-full g.P.Session.shows c.args.state.now c.args.name.now (named ∙ none) c.requires.pins full

pub returns-then-len-ge-MAX_PINS-clause-work : goal.returns-then-len-ge-MAX_PINS-clause-work
returns-then-len-ge-MAX_PINS-clause-work g c = moves-same g.P.Session.shows g.P.Session.has_done c.args.state.now.session

pub returns-clause-turn : goal.returns-clause-turn
returns-clause-turn g c =
    let named = sym (c.number_named.ensures ∙ ap (λ (ps : List Pin). number_named ps c.args.name.now) c.as_slice.ensures.value) in
    let none = none-there g.P.Session.shows c.number_named.result (sym c.is_some.ensures ∙ c.if-is_some.false) in
    let long : vec_len c.args.state.now.pins ≡ length c.args.state.now.pins.items = search rules in
    let free : length c.args.state.now.pins.items < max_pins = omega (arith, c.if-len-ge-MAX_PINS.false, c.len.ensures, long) in
    subst (λ (t : Turn). IfOk c.add_pin.result (λ r. t ≡ record { state = state_by g.P.Session.shows c.add_pin.new.state; reply = reply_by g.P.Session.asked r }))
    (sym (turn-free g.P.Session.shows c.args.state.now c.args.name.now (named ∙ none) c.requires.pins free)) c.add_pin.ensures.turn
