use Rattle.std.proofs.Common.{sym, ◌∙◌}
use Rattle.dg_succ.proofs.Walking.{run-whole, run-part}
use Rattle.dg_succ.proofs.closure.add_run.Goals as goal

pub returns-then-not-branch : goal.returns-then-not-branch
returns-then-not-branch c =
    run-part c.loop-place.found.keys c.add_chunk.new.found.keys c.args.here c.args.pairs.now c.run_at-run.result.now c.loop-place.place c.run_at-run.ensures.run
    (sym c.in_ok-add_chunk.ensures.more ∙ c.if-not-branch.true) c.in_ok-add_chunk.ensures.ok
    ∙ c.loop-place.invariant

pub loop-place-preserved : goal.loop-place-preserved
loop-place-preserved c =
    run-whole c.loop-place.found.keys c.add_chunk.new.found.keys c.args.here c.args.pairs.now c.run_at-run.result.now c.loop-place.place c.run_at-run.ensures.run
    (sym c.in_ok-add_chunk.ensures.more ∙ c.if-not-branch.false) c.in_ok-add_chunk.ensures.ok
    ∙ c.loop-place.invariant
