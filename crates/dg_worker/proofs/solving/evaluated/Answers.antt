use Rattle.std.proofs.Common.{◌≡◌, sym, ap, ◌∙◌}
use Rattle.dg_base.specs.Tables.{Tables}
use Rattle.dg_base.specs.Value.{value_at}
use Rattle.dg_line.specs.Revisions.{Seen}
use Rattle.dg_eval.specs.Contexts.{Evaluating, opened_at, walked_on}
use Rattle.dg_worker.proofs.solving.evaluated.Goals as goal

pub offer-offer-requires-clause-evaluated : goal.offer-offer-requires-clause-evaluated
offer-offer-requires-clause-evaluated g c =
    let self = c.evaluate.new.self in
    let same : opened_at self.ticket self.known ≡ c.open-context.result =
    (λ i. opened_at (c.evaluate.ensures.ticket i) (c.evaluate.ensures.known i)) ∙ (λ i. opened_at (c.open-context.ensures i).ticket (c.open-context.ensures i).known) ∙ sym c.open-context.ensures in
    c.in_ok-held.ensures.walk ∙ ap (λ (x : Evaluating Seen g.row.M.Denot). walked_on g.S.Schema.tables x c.args.job.asking.at) (sym same)

pub of-requires : goal.of-requires
of-requires g c =
    let t = g.S.Schema.tables in let at = c.args.job.asking.at in
    let plain : c.in_ok-held.held ≡ value_at t c.args.job.asking.ticket.revision.graph at =
    c.in_ok-held.ensures.answer ∙ (λ i. value_at t (c.open-context.ensures i).ticket.revision.graph at) in
    let kept : value_at t c.args.job.asking.ticket.revision.graph at ≡ value_at t c.in_ok-kept.kept.revision.graph at =
    λ i. value_at t (sym c.in_ok-kept.ensures i).revision.graph at in
    let seen : value_at t c.in_ok-kept.kept.revision.graph at ≡ value_at g.M.Mark.tables (g.M.Mark.seen c.in_ok-kept.kept.revision).graph at =
    λ i. value_at (sym c.requires.tables i) (sym (c.requires.seen c.in_ok-kept.kept.revision) i).graph at in
    plain ∙ kept ∙ seen
