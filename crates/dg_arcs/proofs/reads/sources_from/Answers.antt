use Rattle.std.proofs.Common.{sym, ◌∙◌}
use Rattle.dg_base.specs.declared.ids.Endpoint.{Endpoint}
use Rattle.dg_pmap.proofs.Runs.{put-whole, put-part}
use Rattle.dg_arcs.specs.Kept.{Target, comes_into}
use Rattle.dg_arcs.proofs.reads.sources_from.Goals as goal

pub returns-then-not-branch : goal.returns-then-not-branch
returns-then-not-branch c =
    put-part (comes_into c.args.node c.args.input) (λ (e : Target × Endpoint). e.1) c.loop-place.sources.items c.add_sources.new.sources.items c.args.targets.now c.run_at-run.result.now c.loop-place.place c.run_at-run.ensures.run
    (sym c.in_ok-add_sources.ensures.more ∙ c.if-not-branch.true) c.in_ok-add_sources.ensures.ok
    ∙ c.loop-place.invariant

pub loop-place-preserved : goal.loop-place-preserved
loop-place-preserved c =
    put-whole (comes_into c.args.node c.args.input) (λ (e : Target × Endpoint). e.1) c.loop-place.sources.items c.add_sources.new.sources.items c.args.targets.now c.run_at-run.result.now c.loop-place.place c.run_at-run.ensures.run
    (sym c.in_ok-add_sources.ensures.more ∙ c.if-not-branch.false) c.in_ok-add_sources.ensures.ok
    ∙ c.loop-place.invariant
