use Rattle.std.proofs.Common.{ap, sym, ◌∙◌}
use Rattle.dg_desk.specs.Desks.{is_refused}
use Rattle.dg_room.specs.Made.{Passed, Portion, passed, with_eviction}
use Rattle.dg_room.proofs.Telling.{tells-dropped}
use Rattle.dg_room.proofs.locked.Locked.evict.Goals as goal

pub returns-then-not-is_refused-clause-pass : goal.returns-then-not-is_refused-clause-pass
returns-then-not-is_refused-clause-pass g c =
    let a = c.evict-answer.result in
    let none = sym c.is_refused.ensures ∙ c.if-not-is_refused.true in
    let told = ap (λ (s : Portion). passed c.pass.inside.number s.made) c.evict.ensures.shares ∙ ap (λ (p : Passed). passed p.number (with_eviction p.made)) c.pass.view_is in
    tells-dropped g.M.Mark.seen c.set_pass.new.self c.evict-answer.new.self c.args.most a c.args.pass.now _ (is_refused a) none c.evict-answer.ensures told
