use Rattle.std.proofs.Common.{[], refl, ◌∙◌, subst}
use Rattle.dg_editor.specs.Machine.{undo_of}
use Rattle.dg_editor.specs.Seeing.{state_of as editor_of}
use Rattle.dg_world.specs.declared.event.Outcome.TheVariants as outcome
use Rattle.dg_world.specs.Steps.{IsEdited}
use Rattle.dg_world.specs.Worlds.{Worlded}
use Rattle.dg_world.proofs.Keeping.{refused}
use Rattle.dg_world.proofs.Events.{moved-by}
use Rattle.dg_world.proofs.world.World.undo.Given.{Over}
use Rattle.dg_world.proofs.world.World.undo.Goals as goal

module _ (g : Over) (c : goal.After-from_vec-made g) where
  abbrev before : Worlded g.row.N.Denot g.row.N-Mark.Denot
  before = record { editor = c.self.inside.editor.it; desk = c.self.inside.desk; pins = c.self.inside.pins.items; offers = c.self.inside.offers.items; made = c.self.inside.made }

  abbrev after : Worlded g.row.N.Denot g.row.N-Mark.Denot
  after = record { editor = c.undo.new.self; desk = c.follow-followed.new.desk; pins = c.self.inside.pins.items; offers = c.self.inside.offers.items; made = c.self.inside.made }

pub invariant_of-self : goal.invariant_of-self
invariant_of-self g c =
    moved-by g.S.Schema.tables g.N.Mark.Mark.seen (g.N.Line.is_of c.self.inside.editor.it.line) (g.N.Line.is_of c.undo.new.self.line) (before g c) c.undo.new.self c.in-Ok.link c.follow-followed.result c.follow-followed.new.desk
    c.self.invariant c.undo.ensures.stays c.follow-followed.ensures.here c.follow-followed.ensures.link c.in-Ok.ensures.from c.in-Ok.ensures.to c.follow-followed.ensures.met c.follow-followed.ensures.desk

pub invariant_of-self-in-Err : goal.invariant_of-self-in-Err
invariant_of-self-in-Err g c =
    refused g.S.Schema.tables g.N.Mark.Mark.seen (g.N.Line.is_of c.self.inside.editor.it.line) (g.N.Line.is_of c.undo.new.self.line)
    (record { editor = c.self.inside.editor.it; desk = c.self.inside.desk; pins = c.self.inside.pins.items; offers = c.self.inside.offers.items; made = c.self.inside.made }) c.undo.new.self c.self.invariant c.undo.ensures.stays
    c.in-Err.ensures.refused

pub returns-in-Ok : goal.returns-in-Ok
returns-in-Ok g c =
    subst
    (λ (w : Worlded g.row.N.Denot g.row.N-Mark.Denot). IsEdited g.S.Schema.tables g.N.Mark.Mark.seen w (after g c) (undo_of g.S.Schema.tables (editor_of w.editor)) [] (outcome.Edited c.from_vec-made.result c.follow-followed.result))
    c.self.view_is (
      c.in-Ok.ensures.undone,
      c.from_vec-made.ensures ∙ c.new.ensures.items,
      record {
        link = c.in-Ok.link;
        right = c.follow-followed.ensures.link;
        from = c.in-Ok.ensures.from;
        to = c.in-Ok.ensures.to;
        desk = c.follow-followed.ensures.desk;
        met = c.follow-followed.ensures.met;
        pins = refl;
        offers = refl;
        made = refl;
      },
    )
