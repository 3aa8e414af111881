use Rattle.std.proofs.Common.{◌≡◌, sym, ap, ◌∙◌}
use Rattle.dg_line.specs.Revisions.{Seen}
use Rattle.dg_eval.specs.Contexts.{Evaluating, opened_at, walked_on}
use Rattle.dg_crowd.proofs.offers.offered.Goals as goal

pub offer-requires-clause-evaluated : goal.offer-requires-clause-evaluated
offer-requires-clause-evaluated g c =
    let self = c.evaluate.new.self in
    let same : opened_at self.ticket self.known ≡ c.open-context.result =
    (λ i. opened_at (c.evaluate.ensures.ticket i) (c.evaluate.ensures.known i)) ∙ (λ i. opened_at (c.open-context.ensures i).ticket (c.open-context.ensures i).known) ∙ sym c.open-context.ensures in
    c.in_ok-_held.ensures.walk ∙ ap (λ (x : Evaluating Seen g.row.M.Denot). walked_on g.S.Schema.tables x c.args.at) (sym same)
