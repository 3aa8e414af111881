use Rattle.std.proofs.Common.{subst}
use Rattle.dg_kinds_coll.specs.Defold.{defold_tables}
use Rattle.dg_world.specs.Worlds.{pin_at}
use Rattle.dg_world.specs.Steps.{IsPin}
use Rattle.dg_alone.proofs.Questions.{asked-now, pinned-live}
use Rattle.dg_alone.proofs.Working.{drop-there}
use Rattle.dg_alone.proofs.answering.answer_now.Goals as goal

pub dropped_of-requires : goal.dropped_of-requires
dropped_of-requires g c =
    let w = c.args.world.now in let u = c.pin-outcome.new.self in let v = c.answer_at.new.world in let x = c.drop_pin-outcome.new.self in
    let n = c.in_ok-pin.pin in
    let pinned = subst (IsPin w u) c.in_ok-pin.ensures c.pin-outcome.ensures in
    (drop-there v x n (pin_at v.pins n) w.editor.here c.drop_pin-outcome.result (pinned-live defold_tables w u v n c.args.ticket c.args.at pinned c.in_ok-answered.ensures.world) c.drop_pin-outcome.ensures).0

pub returns-clause-world : goal.returns-clause-world
returns-clause-world g c =
    let w = c.args.world.now in let u = c.pin-outcome.new.self in let v = c.answer_at.new.world in let x = c.drop_pin-outcome.new.self in
    let n = c.in_ok-pin.pin in
    let pinned = subst (IsPin w u) c.in_ok-pin.ensures c.pin-outcome.ensures in
    let dropped = (drop-there v x n (pin_at v.pins n) w.editor.here c.drop_pin-outcome.result (pinned-live defold_tables w u v n c.args.ticket c.args.at pinned c.in_ok-answered.ensures.world) c.drop_pin-outcome.ensures).1 in
    asked-now defold_tables w u v x c.args.ticket c.args.at n pinned c.in_ok-answered.ensures.world dropped
