use Rattle.std.proofs.Common.{◌≡◌, ◌≤◌, ◌+◌, sym, ap, ◌∙◌, subst, arith}
use Rattle.dg_base.specs.Value.{value_at}
use Rattle.dg_cache.specs.Entries.{ends_of}
use Rattle.dg_line.specs.Revisions.{Seen}
use Rattle.dg_line.specs.Tickets.{Pin}
use Rattle.dg_offer.specs.Offers.{Offered}
use Rattle.dg_eval.specs.Contexts.{Evaluating, opened_at, walked_on, productions_due}
use Rattle.dg_world.specs.Steps.{given_of, walk_of, offer_of}
use Rattle.dg_world.specs.Laws.{HasSources}
use Rattle.dg_world.proofs.Hits.{hits-known}
use Rattle.dg_world.proofs.Known.{given-sourced, opened-is, offered-is}
use Rattle.dg_world.proofs.acts.evaluated.Given.{Over}
use Rattle.dg_world.proofs.acts.evaluated.Goals as goal

module _ (g : Over) (c : goal.After-is_offer g) where
  known : c.in_ok-known.known ≡ given_of g.N.Mark.Mark.seen c.args.desk.now c.args.ticket.now
  known = c.in_ok-known.ensures.entries

  opened : c.open-context.result ≡ opened_at c.args.ticket.now (given_of g.N.Mark.Mark.seen c.args.desk.now c.args.ticket.now)
  opened = opened-is c.open-context.result c.in_ok-share.field-0 c.args.ticket.now c.in_ok-known.known (given_of g.N.Mark.Mark.seen c.args.desk.now c.args.ticket.now) c.open-context.ensures c.in_ok-share.ensures known

  ticket : c.open-context.result.ticket ≡ c.args.ticket.now
  ticket = ap (λ (x : Evaluating Seen g.row.N-Mark.Denot). x.ticket) opened

  offer : c.offer-offer.result ≡ offer_of g.S.Schema.tables c.args.number c.args.ticket.now c.args.at (walk_of g.S.Schema.tables c.args.ticket.now.revision.graph (given_of g.N.Mark.Mark.seen c.args.desk.now c.args.ticket.now) c.args.at)
  offer =
      c.offer-offer.ensures
      ∙ offered-is g.S.Schema.tables c.args.number c.args.ticket.now c.args.at c.evaluate.new.self _ (c.evaluate.ensures.ticket ∙ ticket) c.evaluate.ensures.right
      (c.in_ok-held.ensures.walk ∙ ap (λ (x : Evaluating Seen g.row.N-Mark.Denot). walked_on g.S.Schema.tables x c.args.at) opened)

pub returns-in_err-held-clause-most : goal.returns-in_err-held-clause-most
returns-in_err-held-clause-most g c =
    let known = c.in_ok-known.ensures.entries in
    let opened = opened-is c.open-context.result c.in_ok-share.field-0 c.args.ticket.now c.in_ok-known.known (given_of g.N.Mark.Mark.seen c.args.desk.now c.args.ticket.now) c.open-context.ensures c.in_ok-share.ensures known in
    subst (λ (x : Evaluating Seen g.row.N-Mark.Denot). c.evaluate.new.steps ≤ c.args.steps.now + productions_due g.S.Schema.tables x c.args.at) opened c.evaluate.ensures.most

pub offer-offer-requires-clause-evaluated : goal.offer-offer-requires-clause-evaluated
offer-offer-requires-clause-evaluated g c =
    let self = c.evaluate.new.self in
    let same : opened_at self.ticket self.known ≡ c.open-context.result =
    (λ i. opened_at (c.evaluate.ensures.ticket i) (c.evaluate.ensures.known i)) ∙ (λ i. opened_at (c.open-context.ensures i).ticket (c.open-context.ensures i).known) ∙ sym c.open-context.ensures in
    c.in_ok-held.ensures.walk ∙ ap (λ (x : Evaluating Seen g.row.N-Mark.Denot). walked_on g.S.Schema.tables x c.args.at) (sym same)

pub returns-clause-held : goal.returns-clause-held
returns-clause-held g c = c.in_ok-held.ensures.answer ∙ ap (λ (p : Pin Seen g.row.N-Mark.Denot). value_at g.S.Schema.tables p.revision.graph c.args.at) (ticket g c)

pub returns-clause-offer : goal.returns-clause-offer
returns-clause-offer g c = offer g c

pub returns-clause-sources : goal.returns-clause-sources
returns-clause-sources g c =
    subst (λ (o : Offered Seen g.row.N-Mark.Denot). HasSources g.N.Mark.Mark.seen c.args.desk.now.history o) (sym (offer g c)) (λ e h.
    given-sourced g.N.Mark.Mark.seen g.N.Mark.Mark.tables c.args.desk.now c.args.ticket.now e c.is_desk.ensures c.gives.ensures.same
    (hits-known g.S.Schema.tables c.args.ticket.now.revision.graph (ends_of (given_of g.N.Mark.Mark.seen c.args.desk.now c.args.ticket.now)) c.args.at e h))

pub returns-clause-made : goal.returns-clause-made
returns-clause-made g c =
    let none = ap (λ (x : Evaluating Seen g.row.N-Mark.Denot). x.made) c.open-context.ensures in
    let due = ap (λ (x : Evaluating Seen g.row.N-Mark.Denot). productions_due g.S.Schema.tables x c.args.at) (opened g c) in
    let all = c.made-made.ensures ∙ c.in_ok-held.ensures.made in
    omega (arith, none, due, all)

pub returns-clause-steps : goal.returns-clause-steps
returns-clause-steps g c = c.in_ok-held.ensures.steps ∙ ap (λ (x : Evaluating Seen g.row.N-Mark.Denot). c.args.steps.now + productions_due g.S.Schema.tables x c.args.at) (opened g c)

pub returns-clause-most : goal.returns-clause-most
returns-clause-most g c =
    subst (λ (x : Evaluating Seen g.row.N-Mark.Denot). c.evaluate.new.steps ≤ c.args.steps.now + productions_due g.S.Schema.tables x c.args.at) (opened g c) c.evaluate.ensures.most
