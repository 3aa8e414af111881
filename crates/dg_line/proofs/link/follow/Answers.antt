use Rattle.std.proofs.Common.{ap, ◌∙◌, subst}
use Rattle.dg_base.specs.Graph.{Graph}
use Rattle.dg_base.specs.Order.{ends_rise}
use Rattle.dg_base.specs.Sound.{IsSound}
use Rattle.dg_laws.proofs.Dirties.{dirty-rise}
use Rattle.dg_line.specs.Revisions.{Seen, after}
use Rattle.dg_line.proofs.Linking.{follow-linked}
use Rattle.dg_line.proofs.link.follow.Goals as goal

pub after-requires-clause-in_order : goal.after-requires-clause-in_order
after-requires-clause-in_order g c =
    ap ends_rise (c.deref.ensures.value ∙ c.in_ok-dirty.ensures) ∙ dirty-rise g.S.Schema.tables c.args.graph c.args.touched.now

pub of-requires : goal.of-requires
of-requires g c =
    follow-linked g.met.S.Schema.laws g.N.Mark.Mark.seen c.requires.tables c.requires.seen c.args.from.now.revision c.args.graph c.args.next c.args.touched.now
    (record {
      before = subst (λ (x : Graph). IsSound g.S.Schema.tables x) (c.graph-2.ensures ∙ ap (λ (r : Seen). r.graph) c.revision-before.ensures) c.is_sound-2.ensures;
      sound = c.is_sound.ensures;
      agree = c.requires.agree;
      room = c.requires.room;
    })
    c.in_ok-begin.begin.revision c.in_ok-to.to.revision c.in_ok-dirty.dirty.items (ap (λ p. p.revision) c.in_ok-begin.ensures)
    (c.in_ok-to.ensures.held
    ∙ c.in_ok-revision.ensures
    ∙ ap (λ (r : Seen). after r c.args.graph c.args.next c.deref.result.now) c.revision-before.ensures
    ∙ ap (after c.args.from.now.revision c.args.graph c.args.next) (c.deref.ensures.value ∙ c.in_ok-dirty.ensures))
    c.in_ok-dirty.ensures
