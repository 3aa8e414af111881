use Rattle.std.proofs.Common.{◌∙◌, List, ap, refl, sym}
use Rattle.dg_play.specs.declared.pins.Pin.{Pin}
use Rattle.dg_play.specs.declared.state.State.{State}
use Rattle.dg_play.specs.Seen.{number_named}
use Rattle.dg_play.proofs.Works.{moves-same}
use Rattle.dg_play.proofs.Changes.{live-removed, named-live, turn-none, turn-removed}
use Rattle.dg_play.proofs.pinning.drop_name.Given.{Over}
use Rattle.dg_play.proofs.pinning.drop_name.Goals as goal

pub returns-in_default-clause-turn : goal.returns-in_default-clause-turn
returns-in_default-clause-turn g c =
    let named = sym (c.number_named.ensures ∙ ap (λ (ps : List Pin). number_named ps c.args.name.now) c.as_slice.ensures.value) ∙ c.in_default.is in
    turn-none g.P.Session.shows c.args.state.now c.args.name.now named c.requires.pins

pub returns-in_default-clause-work : goal.returns-in_default-clause-work
returns-in_default-clause-work g c = moves-same g.P.Session.shows g.P.Session.has_done c.args.state.now.session

pub drop_pin-requires-clause-live : goal.drop_pin-requires-clause-live
drop_pin-requires-clause-live g c =
    let named = sym (c.number_named.ensures ∙ ap (λ (ps : List Pin). number_named ps c.args.name.now) c.as_slice.ensures.value) ∙ c.in-Some.is in
    named-live g.P.Session.shows c.args.state.now c.args.name.now c.in-Some.number named c.requires.pins

module _ (g : Over) (c : goal.After-remove_pin g) where
  abbrev after : State g.row.P.Denot
  after = record { session = c.drop_pin.new.self; pins = c.remove_pin.new.pins; bound = c.args.state.now.bound; names = c.args.state.now.names }

pub returns-clause-turn : goal.returns-clause-turn
returns-clause-turn g c =
    let named = sym (c.number_named.ensures ∙ ap (λ (ps : List Pin). number_named ps c.args.name.now) c.as_slice.ensures.value) ∙ c.in-Some.is in
    turn-removed g.P.Session.shows c.args.state.now (after g c) c.args.name.now c.in-Some.number named c.remove_pin.ensures c.drop_pin.ensures.shows c.requires.pins refl refl

pub returns-clause-played : goal.returns-clause-played
returns-clause-played g c =
    let named = sym (c.number_named.ensures ∙ ap (λ (ps : List Pin). number_named ps c.args.name.now) c.as_slice.ensures.value) ∙ c.in-Some.is in
    record {
      ready = c.drop_pin.ensures.ready;
      pins = live-removed g.P.Session.shows c.args.state.now (after g c) c.args.name.now c.in-Some.number named c.remove_pin.ensures c.drop_pin.ensures.shows c.requires.pins;
    }
