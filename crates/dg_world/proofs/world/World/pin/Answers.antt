use Rattle.std.proofs.Common.{List, [], ◌∷◌, ◌++◌, Option, Some, sym, ap, ◌∙◌, subst, Contains}
use Rattle.dg_line.specs.Revisions.{Seen}
use Rattle.dg_line.specs.Tickets.{Pin}
use Rattle.dg_desk.specs.Desks.{state_of}
use Rattle.dg_desk.proofs.Desks.{now_listed}
use Rattle.dg_world.specs.Worlds.{Worlded}
use Rattle.dg_world.specs.Laws.{IsWorld}
use Rattle.dg_world.proofs.Keeping.{pinned}
use Rattle.dg_world.proofs.Events.{pushed-ok}
use Rattle.dg_world.proofs.world.World.pin.Given.{Over}
use Rattle.dg_world.proofs.world.World.pin.Goals as goal

module _ (g : Over) (c : goal.Else-is_err g) where
  abbrev before : Worlded g.row.N.Denot g.row.N-Mark.Denot
  before = record { editor = c.self.inside.editor.it; desk = c.self.inside.desk; pins = c.self.inside.pins.items; offers = c.self.inside.offers.items; made = c.self.inside.made }

pub invariant_of-self-2 : goal.invariant_of-self-2
invariant_of-self-2 g c =
    let here = now_listed g.N.Mark.Mark.seen g.N.Mark.Mark.tables c.self.inside.desk c.is_desk.ensures in
    let listed = subst (Contains (state_of g.N.Mark.Mark.seen c.self.inside.desk).list) c.self.invariant.now here in
    let ticket = c.in-Ok-share.ensures ∙ c.ticket.ensures in
    let items =
    c.push.ensures.items ∙ pushed-ok c.push.result (c.self.inside.pins.items ++ Some c.in-Ok-share.ticket ∷ []) c.self.inside.pins.items (sym c.is_err.ensures.value ∙ c.if-is_err.false)
    ∙ ap (λ (p : Pin Seen g.row.N-Mark.Denot). c.self.inside.pins.items ++ Some p ∷ []) ticket in
    subst
    (λ (ps : List (Option (Pin Seen g.row.N-Mark.Denot))). IsWorld g.S.Schema.tables g.N.Mark.Mark.seen (g.N.Line.is_of c.self.inside.editor.it.line)
    (record { editor = c.self.inside.editor.it; desk = c.self.inside.desk; pins = ps; offers = c.self.inside.offers.items; made = c.self.inside.made })) (sym items)
    (pinned g.S.Schema.tables g.N.Mark.Mark.seen (g.N.Line.is_of c.self.inside.editor.it.line) (before g c) c.self.inside.made c.self.invariant listed)
