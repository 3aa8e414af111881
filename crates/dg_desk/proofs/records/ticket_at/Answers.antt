use Rattle.std.proofs.Common.{sym, ap, ◌∙◌}
use Rattle.dg_desk.specs.Places.{pin_at, pin_from}
use Rattle.dg_desk.proofs.records.ticket_at.Goals as goal

pub returns-in-Some : goal.returns-in-Some
returns-in-Some g c =
    c.brought.ensures ∙ ap (pin_from c.args.opened.now) c.at.ensures ∙ sym (ap (pin_at c.args.opened.now c.args.history.now) c.in-Some.is)
