use Rattle.std.proofs.Common.{◌≡◌, Some, slice_get, subst}
use Rattle.std.specs.List.{Contains}
use Rattle.dg_line.specs.Revisions.{Seen}
use Rattle.dg_line.specs.Tickets.{Pin}
use Rattle.dg_desk.specs.Desks.{Desked, state_of}
use Rattle.dg_desk.proofs.Tickets.{listed-follow}
use Rattle.dg_desk.proofs.tests.follow_from.Goals as goal

pub returns-clause-desk : goal.returns-clause-desk
returns-clause-desk c p h =
    listed-follow (λ (r : Seen). r) (λ (q : Pin Seen _). slice_get c.follow.new.line q.index ≡ Some q.revision) c.args.desk.now c.in_ok-link.link c.follow-2.result
    (λ q k. c.in_ok-link.ensures.stays q (c.requires.desk q k)) c.in_ok-link.ensures.of p
    (subst (λ (z : Desked Seen _). Contains (state_of (λ (r : Seen). r) z).list p) c.follow-2.ensures.new h)
