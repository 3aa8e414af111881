use Rattle.std.proofs.Common.{◌≡◌, length, arith, ◌∙◌}
use Rattle.dg_caller.proofs.Pins.{view-push}
use Rattle.dg_caller.proofs.caller.CallerSession.pin.Goals as goal

pub returns-clause-shows : goal.returns-clause-shows
returns-clause-shows g c =
    let ps = c.args.self.now.pins.items in
    let number : c.in-Ok.number ≡ length ps = omega (arith, c.in-Ok.ensures, c.len.ensures) in
    view-push c.args.self.now.editor ps c.push.new.self.items c.in_ok-ticket.ticket c.in-Ok.number c.in_ok-push.ensures.items (c.in_ok-ticket.ensures ∙ c.ticket.ensures) number
