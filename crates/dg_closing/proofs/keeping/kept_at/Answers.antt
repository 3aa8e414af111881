use Rattle.std.proofs.Common.{◌≡◌, refl, ap, sym, ◌∙◌}
use Rattle.dg_base.specs.Value.{value_at}
use Rattle.dg_laws.proofs.Ends.{ends_tell}
use Rattle.dg_line.specs.Revisions.{Seen}
use Rattle.dg_line.specs.Tickets.{Pin}
use Rattle.dg_closing.proofs.keeping.kept_at.Goals as goal

pub returns-then-is_same : goal.returns-then-is_same
returns-then-is_same g c =
    let answer = c.in_ok-answer.answer.now in
    let revision : answer.ticket.revision ≡ c.args.asking.now.ticket.revision = ap (λ (p : Pin Seen g.row.N-Mark.Denot). p.revision) (sym c.ticket.ensures) ∙ c.if-is_same.ensures refl in
    let at : answer.at ≡ c.args.asking.now.at = sym c.at.ensures ∙ ends_tell.is c.at.result c.args.asking.now.at (sym c.if-eq.ensures) in
    c.value.ensures.value ∙ (λ i. value_at g.N.Mark.Mark.tables (g.N.Mark.Mark.seen (revision i)).graph (at i))
