use Rattle.std.proofs.Common.{sym, ◌∙◌}
use Rattle.dg_base.specs.declared.ids.ArcRec.{ArcRec}
use Rattle.dg_pmap.proofs.Runs.{put-whole, put-part}
use Rattle.dg_arcs.specs.Kept.{Source, goes_out_of}
use Rattle.dg_arcs.proofs.reads.arcs_from.Goals as goal

pub returns-then-not-branch : goal.returns-then-not-branch
returns-then-not-branch c =
    put-part (goes_out_of c.args.node) (λ (e : Source × ArcRec). e.1) c.loop-place.arcs.items c.add_arcs.new.arcs.items c.args.sources.now c.run_at-run.result.now c.loop-place.place c.run_at-run.ensures.run
    (sym c.in_ok-add_arcs.ensures.more ∙ c.if-not-branch.true) c.in_ok-add_arcs.ensures.ok
    ∙ c.loop-place.invariant

pub loop-place-preserved : goal.loop-place-preserved
loop-place-preserved c =
    put-whole (goes_out_of c.args.node) (λ (e : Source × ArcRec). e.1) c.loop-place.arcs.items c.add_arcs.new.arcs.items c.args.sources.now c.run_at-run.result.now c.loop-place.place c.run_at-run.ensures.run
    (sym c.in_ok-add_arcs.ensures.more ∙ c.if-not-branch.false) c.in_ok-add_arcs.ensures.ok
    ∙ c.loop-place.invariant
