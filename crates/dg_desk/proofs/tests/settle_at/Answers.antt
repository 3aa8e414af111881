use Rattle.std.proofs.Common.{◌≡◌, Some, slice_get, subst, sym}
use Rattle.std.specs.List.{Contains}
use Rattle.dg_line.specs.Revisions.{Seen}
use Rattle.dg_line.specs.Tickets.{Pin}
use Rattle.dg_desk.specs.Desks.{Desked, state_of}
use Rattle.dg_desk.proofs.Tickets.{listed-settle}
use Rattle.dg_desk.proofs.tests.settle_at.Goals as goal

pub returns-in_ok-share : goal.returns-in_ok-share
returns-in_ok-share c p h =
    listed-settle (λ (r : Seen). r) (λ (q : Pin Seen _). slice_get c.args.line.now q.index ≡ Some q.revision) c.args.desk.now c.in_ok-share.field-0
    (subst (λ (q : Pin Seen _). slice_get c.args.line.now q.index ≡ Some q.revision) (sym c.in_ok-share.ensures) c.requires.ticket) p
    (subst (λ (z : Desked Seen _). Contains (state_of (λ (r : Seen). r) z).list p) c.settle.ensures h)
