use Rattle.std.proofs.Common.{◌⊎◌, Contains, ap, ◌∙◌, subst}
use Rattle.dg_line.specs.Tickets.{Pin}
use Rattle.dg_closing.specs.declared.spots.Spot.{Spot}
use Rattle.dg_closing.specs.Spots.{HasSpot}
use Rattle.dg_closing.proofs.Lists.{spots-end, spots-next}
use Rattle.dg_closing.proofs.spots.Spots.note_entries.Goals as goal

pub loop-entry-preserved : goal.loop-entry-preserved
loop-entry-preserved g c =
    spots-next (g.M.Mark.seen c.revision-revision.result.now) c.entries-entry-items.result.now c.loop-entry.entry-index c.entry-item.result c.args.self.now c.loop-entry.self c.note.new.self
    (record { at = c.entry-item.result.at; counter = c.counter.result }) c.entry-item.is c.loop-entry-test.true
    (λ i. record { at = c.entry-item.result.at; counter = c.counter.ensures i }) c.loop-entry.invariant c.in_ok-note.ensures

pub returns : goal.returns
returns g c =
    let all = spots-end (g.M.Mark.seen c.revision-revision.result.now) c.entries-entry-items.result.now c.loop-entry.entry-index c.args.self.now c.loop-entry.self c.loop-entry-test.false c.loop-entry.invariant in
    let revision = c.revision-revision.ensures ∙ ap (λ (p : Pin g.row.M-Of.Denot g.row.M.Denot). p.revision) c.ticket.ensures in
    subst (λ r. (s : Spot) → Contains c.loop-entry.self s → Contains c.args.self.now s ⊎ HasSpot (g.M.Mark.seen r) c.args.offer.now.entries s) revision
    (subst (λ es. (s : Spot) → Contains c.loop-entry.self s → Contains c.args.self.now s ⊎ HasSpot (g.M.Mark.seen c.revision-revision.result.now) es s) c.entries-entry-items.ensures all)
