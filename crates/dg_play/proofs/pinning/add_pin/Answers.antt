use Rattle.std.proofs.Common.{◌≡◌, ◌∙◌, ℕ, ap, refl, sym}
use Rattle.dg_play.specs.Seen.{number_named}
use Rattle.dg_line.specs.Revisions.{Seen}
use Rattle.dg_play.specs.declared.pins.Pin.{Pin}
use Rattle.dg_play.specs.declared.state.State.{State}
use Rattle.dg_play.specs.Play.{PinnedAt, with_pin}
use Rattle.dg_play.specs.Seen.{state_by}
use Rattle.dg_play.proofs.Changes.{live-added, turn-added}
use Rattle.dg_play.proofs.pinning.add_pin.Given.{Over}
use Rattle.dg_play.proofs.pinning.add_pin.Goals as goal

module _ (g : Over) (c : goal.In_ok-push g) where
  abbrev new : Pin
  new = record { name = c.of-name.result; number = c.in_ok-number.number }

  abbrev after : State g.row.P.Denot
  after = record { session = c.pin.new.self; pins = c.push.new.self; bound = c.args.state.now.bound; names = c.args.state.now.names }

  named : c.of-name.result ≡ c.args.name.now
  named = cc (c.of-name.ensures, c.in_ok-from_str.ensures.ok)

pub returns-clause-turn : goal.returns-clause-turn
returns-clause-turn g c =
    ap (with_pin (state_by g.P.Session.shows c.args.state.now)) (sym (named g c))
    ∙ turn-added g.P.Session.shows c.args.state.now (after g c) (new g c) c.in_ok-push.ensures.items c.in_ok-number.ensures.shows c.in_ok-number.ensures.free c.requires.played.pins refl refl
    ∙ ap (λ (k : ℕ). record { state = state_by g.P.Session.shows (after g c); reply = PinnedAt k }) (sym (c.number-revision.ensures ∙ ap (λ (r : Seen). r.number) c.now.ensures))

pub returns-clause-played : goal.returns-clause-played
returns-clause-played g c = record {
  ready = c.in_ok-number.ensures.ready;
  pins = live-added g.P.Session.shows c.args.state.now (after g c) (new g c) c.in_ok-push.ensures.items c.in_ok-number.ensures.shows c.in_ok-number.ensures.free c.requires.played.pins (ap (number_named c.args.state.now.pins.items) (named g c) ∙ c.requires.free);
}
