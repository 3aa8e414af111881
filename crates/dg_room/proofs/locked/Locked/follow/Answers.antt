use Rattle.std.proofs.Common.{◌≤◌, ◌<◌, ap, sym, subst, arith}
use Rattle.dg_base.specs.declared.limits.TheConstants.{REVISIONS}
use Rattle.dg_desk.specs.Desks.{spare}
use Rattle.dg_room.specs.Made.{Passed}
use Rattle.dg_room.proofs.Making.{has-spare}
use Rattle.dg_room.proofs.locked.Locked.follow.Goals as goal

pub follow-answer-requires-clause-spare : goal.follow-answer-requires-clause-spare
follow-answer-requires-clause-spare g c =
    let total = c.audit_follows.ensures.total in
    let view = ap (λ (p : Passed). p.made.follows) c.pass.view_is in
    let room = c.requires.room in
    let few : c.args.self.now.books.follows < REVISIONS = omega (arith, total, view, room) in
    subst (λ hs. 1 ≤ spare hs) (sym (ap (λ d. d.history) c.set_pass.ensures)) (has-spare c.args.self.now.desk.history c.args.self.now.books c.args.self.now.has few)
