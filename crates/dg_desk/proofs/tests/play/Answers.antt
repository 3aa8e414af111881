use Rattle.std.proofs.Common.{◌≡◌, Some, slice_get}
use Rattle.dg_line.specs.Revisions.{Seen}
use Rattle.dg_line.specs.Tickets.{Pin}
use Rattle.dg_desk.proofs.Tickets.{listed-evicted}
use Rattle.dg_desk.proofs.tests.play.Goals as goal

pub returns-in-Evict-clause-desk : goal.returns-in-Evict-clause-desk
returns-in-Evict-clause-desk c p h =
    listed-evicted (λ (r : Seen). r) (λ (q : Pin Seen _). slice_get c.args.line.now q.index ≡ Some q.revision) c.args.desk.now c.evict.new.self c.in-Evict.most c.evict.result c.evict.ensures c.requires.desk p h
