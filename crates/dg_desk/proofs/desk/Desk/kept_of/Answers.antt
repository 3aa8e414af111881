use Rattle.std.proofs.Common.{ap, ◌∙◌}
use Rattle.dg_line.specs.Tickets.{Pin}
use Rattle.dg_desk.specs.Machine.{unchanged}
use Rattle.dg_desk.specs.Desks.{state_of}
use Rattle.dg_desk.proofs.desk.Desk.kept_of.Goals as goal

pub returns : goal.returns
returns g c =
    let f = c.in-Some.ensures in (
      record {
        pin = c.in-Some.ticket.now;
        among = f.0;
        index = f.1 ∙ c.index.ensures ∙ ap (λ (p : Pin _ _). p.index) c.ticket.ensures;
        revision = c.agrees.ensures ∙ ap (λ (p : Pin _ _). p.revision) c.ticket-2.ensures;
      },
      c.in_ok-kept.ensures
          ∙ ap (λ (p : Pin _ _). unchanged (g.M.Mark.seen p.revision) (g.M.Mark.seen c.now-now.result.now.revision) c.entries.result.now) c.ticket-3.ensures
          ∙ ap (λ (p : Pin _ _). unchanged (g.M.Mark.seen c.args.offer.now.ticket.revision) (g.M.Mark.seen p.revision) c.entries.result.now) c.now-now.ensures.now
          ∙ ap (unchanged (g.M.Mark.seen c.args.offer.now.ticket.revision) (g.M.Mark.seen (state_of g.M.Mark.seen c.args.self.now).now.revision)) c.entries.ensures,
    )
