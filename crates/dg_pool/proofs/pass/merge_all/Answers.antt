use Rattle.dg_pool.proofs.Adding.{merged}
use Rattle.dg_pool.proofs.pass.merge_all.Goals as goal

pub loop-pass-preserved : goal.loop-pass-preserved
loop-pass-preserved g c =
    merged c.args.all c.loop-pass.all c.pass.inside.shares c.merge.new.self c.loop-pass.yielded c.in-Some.pass c.loop-pass.invariant c.pass.invariant c.pass.view_is c.merge.ensures
