use Rattle.std.proofs.Common.{◌≡◌, List, [], ◌∷◌, ◌++◌, sym, ap, ◌∙◌, subst, length, vec_len, rules, Contains}
use Rattle.dg_line.specs.Revisions.{Seen}
use Rattle.dg_offer.specs.Offers.{Offered}
use Rattle.dg_desk.specs.Desks.{state_of}
use Rattle.dg_world.specs.Laws.{IsWorld}
use Rattle.dg_world.specs.Worlds.{Worlded, pin_at}
use Rattle.dg_world.proofs.Keeping.{live-among, answered}
use Rattle.dg_world.proofs.Events.{pushed-ok}
use Rattle.dg_world.proofs.world.World.evaluate.Given.{Over}
use Rattle.dg_world.proofs.world.World.evaluate.Goals as goal

pub evaluated_listed-found-requires-clause-ticket : goal.evaluated_listed-found-requires-clause-ticket
evaluated_listed-found-requires-clause-ticket g c =
    let live = ap (λ (w : Worlded g.row.N.Denot g.row.N-Mark.Denot). pin_at w.pins c.args.pin) c.self.view_is ∙ sym c.in-Some.ensures in
    c.self.invariant.pins c.in-Some.ticket.now (live-among c.self.inside.pins.items c.args.pin c.in-Some.ticket.now live)

pub evaluated_listed-found-requires-clause-line : goal.evaluated_listed-found-requires-clause-line
evaluated_listed-found-requires-clause-line g c p h = subst (λ (l : g.row.N.Denot). g.N.Line.is_of l p) (sym c.line.ensures) (c.self.invariant.line p h)

module _ (g : Over) (c : goal.After-self-1 g) where
  abbrev before : Worlded g.row.N.Denot g.row.N-Mark.Denot
  before = record { editor = c.self.inside.editor.it; desk = c.self.inside.desk; pins = c.self.inside.pins.items; offers = c.self.inside.offers.items; made = c.self.inside.made }

  there : Contains (state_of g.N.Mark.Mark.seen c.self.inside.desk).list c.in-Some.ticket.now
  there =
      let live = ap (λ (w : Worlded g.row.N.Denot g.row.N-Mark.Denot). pin_at w.pins c.args.pin) c.self.view_is ∙ sym c.in-Some.ensures in
      c.self.invariant.pins c.in-Some.ticket.now (live-among c.self.inside.pins.items c.args.pin c.in-Some.ticket.now live)

pub invariant_of-self-2 : goal.invariant_of-self-2
invariant_of-self-2 g c =
    let offer = c.in-Ok-found.found.offer in
    let long : vec_len c.self.inside.offers ≡ length c.self.inside.offers.items = search rules in
    let ask = ap (λ (o : Offered Seen g.row.N-Mark.Denot). o.ask) c.in-Ok-found.ensures.offer ∙ c.in-Ok.ensures.1 ∙ c.len.ensures ∙ long in
    let ticket = ap (λ (o : Offered Seen g.row.N-Mark.Denot). o.ticket) c.in-Ok-found.ensures.offer in
    let listed = subst (Contains (state_of g.N.Mark.Mark.seen c.self.inside.desk).list) (sym ticket) (there g c) in
    let items = c.push.ensures.items ∙ pushed-ok c.push.result (c.self.inside.offers.items ++ offer ∷ []) c.self.inside.offers.items (sym c.is_err.ensures.value ∙ c.if-is_err.false) in
    subst
    (λ (os : List (Offered Seen g.row.N-Mark.Denot)). IsWorld g.S.Schema.tables g.N.Mark.Mark.seen (g.N.Line.is_of c.self.inside.editor.it.line)
    (record { editor = c.self.inside.editor.it; desk = c.self.inside.desk; pins = c.self.inside.pins.items; offers = os; made = c.in-Some-checked_add.made })) (sym items)
    (answered g.S.Schema.tables g.N.Mark.Mark.seen (g.N.Line.is_of c.self.inside.editor.it.line) (before g c) offer c.in-Some-checked_add.made c.self.invariant ask listed c.in-Ok-found.ensures.right c.in-Ok-found.ensures.sources)
