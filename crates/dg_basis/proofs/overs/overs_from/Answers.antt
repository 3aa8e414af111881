use Rattle.std.proofs.Common.{sym, ◌∙◌}
use Rattle.dg_pmap.proofs.Runs.{put-whole, put-part}
use Rattle.dg_basis.specs.Keys.{Over, is_over_one}
use Rattle.dg_basis.proofs.overs.overs_from.Goals as goal

pub returns-then-not-branch : goal.returns-then-not-branch
returns-then-not-branch c =
    put-part (is_over_one c.args.node) (λ (e : Over × Unit {0}). e.0.1) c.loop-place.found.items c.add_overs.new.found.items c.args.overs.now c.run_at-run.result.now c.loop-place.place c.run_at-run.ensures.run
    (sym c.in_ok-add_overs.ensures.more ∙ c.if-not-branch.true) c.in_ok-add_overs.ensures.ok
    ∙ c.loop-place.invariant

pub loop-place-preserved : goal.loop-place-preserved
loop-place-preserved c =
    put-whole (is_over_one c.args.node) (λ (e : Over × Unit {0}). e.0.1) c.loop-place.found.items c.add_overs.new.found.items c.args.overs.now c.run_at-run.result.now c.loop-place.place c.run_at-run.ensures.run
    (sym c.in_ok-add_overs.ensures.more ∙ c.if-not-branch.false) c.in_ok-add_overs.ensures.ok
    ∙ c.loop-place.invariant
