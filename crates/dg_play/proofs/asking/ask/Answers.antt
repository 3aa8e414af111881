use Rattle.std.proofs.Common.{◌≡◌, ◌∙◌, List, None, Some, IfOk, ap, sym, subst}
use Rattle.dg_play.specs.declared.pins.Pin.{Pin}
use Rattle.dg_play.specs.Play.{Reply, unchanged}
use Rattle.dg_play.specs.Seen.{number_named, reply_by, state_by}
use Rattle.dg_play.proofs.Changes.{ask-by}
use Rattle.dg_play.proofs.asking.ask.Goals as goal

pub returns-in-None-number_named-clause-turn : goal.returns-in-None-number_named-clause-turn
returns-in-None-number_named-clause-turn g c =
    let named : number_named c.args.state.now.pins.items c.in-Some.name ≡ None =
    sym (c.number_named.ensures ∙ ap (λ (ps : List Pin). number_named ps c.as_str.result.now) c.as_slice.ensures.value ∙ ap (number_named c.args.state.now.pins.items) c.as_str.ensures) ∙ c.in-None-number_named.is in
    ap (unchanged (state_by g.P.Session.shows c.args.state.now)) (ask-by g.P.Session.shows c.args.state.now c.args.pin.now c.in-Some.name c.args.at.now None c.in-Some.is named c.requires.pins)

pub returns-in-Some-number_named-clause-turn : goal.returns-in-Some-number_named-clause-turn
returns-in-Some-number_named-clause-turn g c =
    let named : number_named c.args.state.now.pins.items c.in-Some.name ≡ Some c.in-Some-number_named.number =
    sym (c.number_named.ensures ∙ ap (λ (ps : List Pin). number_named ps c.as_str.result.now) c.as_slice.ensures.value ∙ ap (number_named c.args.state.now.pins.items) c.as_str.ensures) ∙ c.in-Some-number_named.is in
    subst
    (λ (q : Reply). IfOk c.ask_number-in-Some-number_named.result
    (λ r. unchanged (state_by g.P.Session.shows c.args.state.now) q ≡ record { state = state_by g.P.Session.shows c.ask_number-in-Some-number_named.new.state; reply = reply_by g.P.Session.asked r }))
    (sym (ask-by g.P.Session.shows c.args.state.now c.args.pin.now c.in-Some.name c.args.at.now (Some c.in-Some-number_named.number) c.in-Some.is named c.requires.pins)) c.ask_number-in-Some-number_named.ensures.turn
