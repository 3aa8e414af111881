use Rattle.std.proofs.Common.{ap, ◌∙◌}
use Rattle.dg_line.specs.Revisions.{Seen}
use Rattle.dg_line.specs.Tickets.{Pin}
use Rattle.dg_closing.proofs.Growing.{settled-now}
use Rattle.dg_closing.proofs.asking.settle_at.Goals as goal

pub returns-clause-now : goal.returns-clause-now
returns-clause-now g c =
    ap (λ (p : Pin Seen g.row.N-Mark.Denot). p.revision) (settled-now g.N.Mark.Mark.seen c.args.desk.now c.settle.new.self c.in_ok-share.field-0 c.settle.ensures ∙ c.in_ok-share.ensures)
