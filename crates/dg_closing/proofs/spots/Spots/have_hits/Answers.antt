use Rattle.std.proofs.Common.{Contains, ap, ◌∙◌, subst}
use Rattle.dg_base.specs.declared.ids.Endpoint.{Endpoint}
use Rattle.dg_line.specs.Tickets.{Pin}
use Rattle.dg_closing.specs.Spots.{spot_of}
use Rattle.dg_closing.proofs.Lists.{all-end, all-next-at, spot-known}
use Rattle.dg_closing.proofs.spots.Spots.have_hits.Goals as goal

pub loop-hit-preserved : goal.loop-hit-preserved
loop-hit-preserved g c =
    let r = g.M.Mark.seen c.revision-revision.result.now in
    all-next-at (λ (e : Endpoint). Contains c.args.self.now (spot_of r e)) c.hits-hit-items.result.now c.loop-hit.hit-index _ c.loop-hit-test.true c.loop-hit.invariant
    (spot-known c.args.self.now r _ c.counter.result c.counter.ensures c.if-not-has.ensures)

pub returns : goal.returns
returns g c h =
    let all = all-end (λ (e : Endpoint). Contains c.args.self.now (spot_of (g.M.Mark.seen c.revision-revision.result.now) e)) c.hits-hit-items.result.now c.loop-hit.hit-index c.loop-hit-test.false c.loop-hit.invariant in
    let revision = c.revision-revision.ensures ∙ ap (λ (p : Pin g.row.M-Of.Denot g.row.M.Denot). p.revision) c.ticket.ensures in
    subst (λ r. (e : Endpoint) → Contains c.args.offer.now.hits e → Contains c.args.self.now (spot_of (g.M.Mark.seen r) e)) revision
    (subst (λ hits. (e : Endpoint) → Contains hits e → Contains c.args.self.now (spot_of (g.M.Mark.seen c.revision-revision.result.now) e)) c.hits-hit-items.ensures all)
