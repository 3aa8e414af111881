use Rattle.dg_closing.proofs.Growing.{value-seen}
use Rattle.dg_closing.proofs.Lists.{if-some}
use Rattle.std.proofs.Common.{◌∙◌}
use Rattle.dg_closing.proofs.keeping.kept_for.Goals as goal

pub returns-clause-value : goal.returns-clause-value
returns-clause-value g c =
    if-some c.kept_at.result c.kept_at.ensures
    (λ h is. is ∙ value-seen g.N.Mark.Mark.seen c.requires.tables c.requires.seen c.args.asking.now.ticket.revision c.args.asking.now.at)
