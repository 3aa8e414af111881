use Rattle.std.proofs.Common.{◌≡◌, List, Some, refl, sym, ap, ◌∙◌, subst, slice_get, Contains}
use Rattle.dg_line.specs.Revisions.{Seen}
use Rattle.dg_offer.specs.Offers.{Offered}
use Rattle.dg_desk.specs.Desks.{IsPublication}
use Rattle.dg_world.specs.declared.event.Outcome.TheVariants as outcome
use Rattle.dg_world.specs.Steps.{IsPublish}
use Rattle.dg_world.specs.Worlds.{Worlded}
use Rattle.dg_world.proofs.Events.{get-among, get-found, published-by, listed-publication, published-answer, unpublished-answer}
use Rattle.dg_world.proofs.world.World.publish.Given.{Over}
use Rattle.dg_world.proofs.world.World.publish.Goals as goal

module _ (g : Over) (c : goal.After-publish g) where
  abbrev before : Worlded g.row.N.Denot g.row.N-Mark.Denot
  before = record { editor = c.self.inside.editor.it; desk = c.self.inside.desk; pins = c.self.inside.pins.items; offers = c.self.inside.offers.items; made = c.self.inside.made }

  abbrev after : Worlded g.row.N.Denot g.row.N-Mark.Denot
  after = record { editor = c.self.inside.editor.it; desk = c.publish.new.self; pins = c.self.inside.pins.items; offers = c.self.inside.offers.items; made = c.self.inside.made }

  found : slice_get c.self.inside.offers.items c.args.offer ≡ Some c.in-Some.offer.now
  found =
      ap (λ (os : List (Offered Seen g.row.N-Mark.Denot)). slice_get os c.args.offer) (sym c.deref.ensures.value)
      ∙ get-found c.deref.result.now c.args.offer c.in-Some.offer.now c.in-Some.ensures.lookup.3.0 c.in-Some.ensures.lookup.1

  there : Contains c.self.inside.offers.items c.in-Ok.copy
  there = subst (Contains c.self.inside.offers.items) (sym c.in-Ok.ensures) (get-among c.self.inside.offers.items c.args.offer c.in-Some.offer.now found)

pub publish-requires-clause-offer : goal.publish-requires-clause-offer
publish-requires-clause-offer g c =
    let found : slice_get c.self.inside.offers.items c.args.offer ≡ Some c.in-Some.offer.now =
    ap (λ (os : List (Offered Seen g.row.N-Mark.Denot)). slice_get os c.args.offer) (sym c.deref.ensures.value)
    ∙ get-found c.deref.result.now c.args.offer c.in-Some.offer.now c.in-Some.ensures.lookup.3.0 c.in-Some.ensures.lookup.1 in
    let there = subst (Contains c.self.inside.offers.items) (sym c.in-Ok.ensures) (get-among c.self.inside.offers.items c.args.offer c.in-Some.offer.now found) in
    subst (λ l. g.N.Line.is_of l c.in-Ok.copy.ticket) (sym c.line.ensures) (c.self.invariant.line c.in-Ok.copy.ticket (c.self.invariant.offers c.in-Ok.copy there))

pub invariant_of-self : goal.invariant_of-self
invariant_of-self g c =
    published-by g.S.Schema.tables g.N.Mark.Mark.seen (g.N.Line.is_of c.self.inside.editor.it.line) (before g c) c.in-Ok.copy c.publish.result c.publish.new.self c.self.invariant (there g c) c.publish.ensures

pub returns-in-Ok : goal.returns-in-Ok
returns-in-Ok g c =
    let offer = c.in-Some.offer.now in
    let done = subst (λ (o : Offered Seen g.row.N-Mark.Denot). IsPublication g.N.Mark.Mark.seen c.self.inside.desk o c.publish.result c.publish.new.self c.publish.result.place) c.in-Ok.ensures c.publish.ensures in
    let listed = listed-publication g.N.Mark.Mark.seen c.self.inside.desk c.in-Ok.copy c.publish.result c.publish.new.self (c.self.invariant.offers c.in-Ok.copy (there g c)) c.publish.ensures in
    subst (λ (w : Worlded g.row.N.Denot g.row.N-Mark.Denot). IsPublish g.N.Mark.Mark.seen w (after g c) (slice_get w.offers c.args.offer) (outcome.Published c.publish.result)) c.self.view_is
    (published-answer g.N.Mark.Mark.seen (before g c) (after g c) offer c.publish.result (slice_get c.self.inside.offers.items c.args.offer) (found g c)
    (record { desk = done; listed = listed; editor = refl; pins = refl; offers = refl; made = refl }))

pub returns-in-Err : goal.returns-in-Err
returns-in-Err g c =
    let found : slice_get c.self.inside.offers.items c.args.offer ≡ Some c.in-Some.offer.now =
    ap (λ (os : List (Offered Seen g.row.N-Mark.Denot)). slice_get os c.args.offer) (sym c.deref.ensures.value)
    ∙ get-found c.deref.result.now c.args.offer c.in-Some.offer.now c.in-Some.ensures.lookup.3.0 c.in-Some.ensures.lookup.1 in
    let same = ap (λ (w : Worlded g.row.N.Denot g.row.N-Mark.Denot). slice_get w.offers c.args.offer) (sym c.self.view_is) in
    unpublished-answer g.N.Mark.Mark.seen c.args.self.now c.in-Some.offer.now (slice_get c.args.self.now.offers c.args.offer) (same ∙ found)
