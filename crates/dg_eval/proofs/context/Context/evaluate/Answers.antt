use Rattle.std.proofs.Common.{rules, ◌≡◌, IfOk, subst}
use Rattle.dg_base.specs.Graph.{Graph}
use Rattle.dg_base.specs.Value.{value_at}
use Rattle.dg_eval.proofs.context.Context.evaluate.Goals as goal

pub returns-clause-answer : goal.returns-clause-answer
returns-clause-answer g c =
    let graph : c.graph-graph.result.now ≡ c.args.self.now.ticket.revision.graph = search rules in
    subst (λ (z : Graph). IfOk c.evaluate.result (λ a. a ≡ value_at g.S.Schema.tables z c.args.at)) graph c.evaluate.ensures.answer
