use Rattle.std.proofs.Common.{ap, sym, ◌∙◌}
use Rattle.dg_base.specs.Value.{value_at}
use Rattle.dg_kinds_coll.specs.Defold.{defold_tables}
use Rattle.dg_line.specs.Revisions.{Seen}
use Rattle.dg_line.specs.Tickets.{Pin}
use Rattle.dg_closing.proofs.tests.solve.Goals as goal

pub of-requires : goal.of-requires
of-requires g c =
    c.in_ok-found.ensures.held ∙ ap (λ (p : Pin Seen _). value_at defold_tables p.revision.graph c.total_of-at.result) (sym c.in_ok-ticket.ensures)
