use Rattle.std.proofs.Common.{refl, sym, subst}
use Rattle.dg_base.specs.Transact.{applied}
use Rattle.dg_line.specs.Revisions.{Seen}
use Rattle.dg_editor.specs.declared.editor.Commit.{Commit}
use Rattle.dg_editor.specs.Machine.{edited, made_by}
use Rattle.dg_editor.specs.Seeing.{state_of as editor_of}
use Rattle.dg_world.specs.declared.event.Outcome.TheVariants as outcome
use Rattle.dg_world.specs.Steps.{IsEdited}
use Rattle.dg_world.specs.Worlds.{Worlded}
use Rattle.dg_world.proofs.Keeping.{refused}
use Rattle.dg_world.proofs.Events.{moved-by, refused-answer}
use Rattle.dg_world.proofs.world.World.edit.Given.{Over}
use Rattle.dg_world.proofs.world.World.edit.Goals as goal

module _ (g : Over) (c : goal.After-follow-followed g) where
  abbrev before : Worlded g.row.N.Denot g.row.N-Mark.Denot
  before = record { editor = c.self.inside.editor.it; desk = c.self.inside.desk; pins = c.self.inside.pins.items; offers = c.self.inside.offers.items; made = c.self.inside.made }

  abbrev after : Worlded g.row.N.Denot g.row.N-Mark.Denot
  after = record { editor = c.transact.new.self; desk = c.follow-followed.new.desk; pins = c.self.inside.pins.items; offers = c.self.inside.offers.items; made = c.self.inside.made }

module _ (g : Over) (c : goal.In-Err g) where
  abbrev unmoved : Worlded g.row.N.Denot g.row.N-Mark.Denot
  unmoved = record { editor = c.self.inside.editor.it; desk = c.self.inside.desk; pins = c.self.inside.pins.items; offers = c.self.inside.offers.items; made = c.self.inside.made }

  abbrev left : Worlded g.row.N.Denot g.row.N-Mark.Denot
  left = record { editor = c.transact.new.self; desk = c.self.inside.desk; pins = c.self.inside.pins.items; offers = c.self.inside.offers.items; made = c.self.inside.made }

pub invariant_of-self : goal.invariant_of-self
invariant_of-self g c =
    moved-by g.S.Schema.tables g.N.Mark.Mark.seen (g.N.Line.is_of c.self.inside.editor.it.line) (g.N.Line.is_of c.transact.new.self.line) (before g c) c.transact.new.self c.in-Ok.commit.link c.follow-followed.result
    c.follow-followed.new.desk c.self.invariant c.transact.ensures.stays c.follow-followed.ensures.here c.follow-followed.ensures.link c.in-Ok.ensures.from c.in-Ok.ensures.to c.follow-followed.ensures.met
    c.follow-followed.ensures.desk

pub invariant_of-self-in-Err : goal.invariant_of-self-in-Err
invariant_of-self-in-Err g c =
    refused g.S.Schema.tables g.N.Mark.Mark.seen (g.N.Line.is_of c.self.inside.editor.it.line) (g.N.Line.is_of c.transact.new.self.line) (unmoved g c) c.transact.new.self c.self.invariant c.transact.ensures.stays
    c.in-Err.ensures.refused

pub returns-in-Ok : goal.returns-in-Ok
returns-in-Ok g c =
    subst
    (λ (w : Worlded g.row.N.Denot g.row.N-Mark.Denot). IsEdited g.S.Schema.tables g.N.Mark.Mark.seen w (after g c) (edited g.S.Schema.tables (editor_of w.editor) c.args.all.now)
    (made_by (applied g.S.Schema.tables w.editor.here.revision.graph w.editor.here.revision.next c.args.all.now)) (outcome.Edited c.in-Ok.commit.made c.follow-followed.result)) c.self.view_is (
      c.in-Ok.ensures.edited,
      sym c.in-Ok.ensures.made,
      record {
        link = c.in-Ok.commit.link;
        right = c.follow-followed.ensures.link;
        from = c.in-Ok.ensures.from;
        to = c.in-Ok.ensures.to;
        desk = c.follow-followed.ensures.desk;
        met = c.follow-followed.ensures.met;
        pins = refl;
        offers = refl;
        made = refl;
      },
    )

pub returns-in-Err : goal.returns-in-Err
returns-in-Err g c =
    subst
    (λ (w : Worlded g.row.N.Denot g.row.N-Mark.Denot). IsEdited g.S.Schema.tables g.N.Mark.Mark.seen w (left g c) (edited g.S.Schema.tables (editor_of w.editor) c.args.all.now)
    (made_by (applied g.S.Schema.tables w.editor.here.revision.graph w.editor.here.revision.next c.args.all.now)) (outcome.Refused c.in-Err.refusal)) c.self.view_is
    (refused-answer {X = Commit g.row.N-Mark.Denot Seen} g.S.Schema.tables g.N.Mark.Mark.seen (λ k. editor_of c.transact.new.self) (unmoved g c) (left g c)
    (edited g.S.Schema.tables (editor_of c.self.inside.editor.it) c.args.all.now)
    (made_by (applied g.S.Schema.tables c.self.inside.editor.it.here.revision.graph c.self.inside.editor.it.here.revision.next c.args.all.now)) c.in-Err.refusal c.in-Err.ensures.edited (record { editor = c.in-Err.ensures.refused; desk = refl; pins = refl; offers = refl; made = refl }))
