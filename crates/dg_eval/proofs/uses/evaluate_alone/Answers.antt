use Rattle.std.proofs.Common.{rules, ◌≡◌, ◌+◌, [], ◌∙◌, ap}
use Rattle.dg_base.specs.Value.{value_at}
use Rattle.dg_eval.specs.Contexts.{opened_at, productions_due}
use Rattle.dg_eval.proofs.uses.evaluate_alone.Goals as goal

pub returns-clause-answer : goal.returns-clause-answer
returns-clause-answer g c =
    let opened : c.open-context.result ≡ opened_at c.args.ticket.now [] = search rules in
    c.in_ok-evaluate.ensures.answer ∙ ap (λ z. value_at g.S.Schema.tables z.ticket.revision.graph c.args.at) opened

pub returns-clause-steps : goal.returns-clause-steps
returns-clause-steps g c =
    let opened : c.open-context.result ≡ opened_at c.args.ticket.now [] = search rules in
    c.in_ok-evaluate.ensures.steps ∙ ap (λ z. c.args.steps.now + productions_due g.S.Schema.tables z c.args.at) opened
