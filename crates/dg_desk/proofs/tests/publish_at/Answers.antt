use Rattle.std.proofs.Common.{◌≡◌, Some, slice_get}
use Rattle.dg_line.specs.Revisions.{Seen}
use Rattle.dg_line.specs.Tickets.{Pin}
use Rattle.dg_desk.proofs.Tickets.{listed-published}
use Rattle.dg_desk.proofs.tests.publish_at.Goals as goal

pub returns : goal.returns
returns c p h =
    listed-published (λ (r : Seen). r) (λ (q : Pin Seen _). slice_get c.args.line.now q.index ≡ Some q.revision) c.args.desk.now c.publish-answer.new.self c.in_ok-offer.offer c.publish-answer.result
    c.publish-answer.result.place c.publish-answer.ensures c.requires.desk p h
