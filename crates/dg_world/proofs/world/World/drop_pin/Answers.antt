use Rattle.std.proofs.Common.{refl, sym, ap, ◌∙◌, subst, is_some, not, set, None}
use Rattle.dg_world.specs.Steps.{IsDropped}
use Rattle.dg_world.specs.Worlds.{Worlded, pin_at}
use Rattle.dg_world.proofs.Keeping.{dropped}
use Rattle.dg_world.proofs.Events.{dropped-answer, is_some-copied}
use Rattle.dg_world.proofs.world.World.drop_pin.Given.{Over}
use Rattle.dg_world.proofs.world.World.drop_pin.Goals as goal

module _ (g : Over) (c : goal.Joined-index_mut g) where
  abbrev before : Worlded g.row.N.Denot g.row.N-Mark.Denot
  before = record { editor = c.self.inside.editor.it; desk = c.self.inside.desk; pins = c.self.inside.pins.items; offers = c.self.inside.offers.items; made = c.self.inside.made }

  abbrev after : Worlded g.row.N.Denot g.row.N-Mark.Denot
  after = record { editor = c.self.inside.editor.it; desk = c.self.inside.desk; pins = set c.self.inside.pins.items c.args.pin None; offers = c.self.inside.offers.items; made = c.self.inside.made }

pub invariant_of-self : goal.invariant_of-self
invariant_of-self g c = dropped g.S.Schema.tables g.N.Mark.Mark.seen (g.N.Line.is_of c.self.inside.editor.it.line) (before g c) c.args.pin c.self.invariant

pub returns : goal.returns
returns g c =
    dropped-answer c.args.self.now (after g c) c.args.pin (pin_at c.args.self.now.pins c.args.pin)
    (ap is_some (sym c.pinned.ensures) ∙ is_some-copied c.pinned.result (c.is_none.ensures ∙ ap not c.if-is_none.false))
    (subst (λ (w : Worlded g.row.N.Denot g.row.N-Mark.Denot). IsDropped w (after g c) c.args.pin) c.self.view_is (record { pins = refl; editor = refl; desk = refl; offers = refl; made = refl }))
