use Rattle.std.proofs.Common.{[], ap, ◌∙◌}
use Rattle.dg_line.specs.Revisions.{Seen}
use Rattle.dg_line.specs.Tickets.{Pin}
use Rattle.dg_world.proofs.Events.{opened-by}
use Rattle.dg_world.proofs.world.World.open.Goals as goal

pub invariant_of-world : goal.invariant_of-world
invariant_of-world g c =
    let editor = c.in-Some.editor in
    let opened = c.in_ok-desk.ensures ∙ ap (λ (p : Pin Seen g.row.N-Mark.Denot). record { opened = p; capacity = c.args.capacity; entries = []; history = []; pass = 0 }) (c.in_ok-share.ensures ∙ c.ticket.ensures) in
    opened-by g.S.Schema.tables g.N.Mark.Mark.seen (g.N.Line.is_of editor.line) editor c.args.capacity c.in_ok-desk.desk c.new.result.items c.new-2.result.items c.is_editor.ensures.here opened c.new.ensures.items
    c.new-2.ensures.items
