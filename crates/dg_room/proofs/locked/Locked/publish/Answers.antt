use Rattle.std.proofs.Common.{ap, sym, ◌∙◌}
use Rattle.dg_room.specs.Made.{Passed, Portion, passed, with_publication}
use Rattle.dg_room.proofs.Telling.{tells-recorded}
use Rattle.dg_room.proofs.locked.Locked.publish.Goals as goal

pub returns-then-is_some-clause-pass : goal.returns-then-is_some-clause-pass
returns-then-is_some-clause-pass g c =
    let a = c.publish-answer.result in
    let some = sym c.is_some.ensures ∙ c.if-is_some.true in
    let told = ap (λ (s : Portion). passed c.pass.inside.number s.made) c.publish.ensures.shares ∙ ap (λ (p : Passed). passed p.number (with_publication p.made)) c.pass.view_is in
    tells-recorded g.M.Mark.seen c.set_pass.new.self c.publish-answer.new.self c.args.offer a c.args.pass.now _ a.place some c.publish-answer.ensures told
