use Rattle.std.proofs.Common.{◌≡◌, map, ap, sym, ◌∙◌}
use Rattle.dg_base.specs.Value.{produced, arg_value}
use Rattle.dg_answer.proofs.Calls.{called-cycle, called-produced, on_ok}
use Rattle.dg_answer.proofs.answering.called.Goals as goal

pub returns-then-has_cycle-clause-answer : goal.returns-then-has_cycle-clause-answer
returns-then-has_cycle-clause-answer g c value are =
    called-cycle g.S.Schema.tables c.args.kind value c.args.args.now c.args.answers.now are c.args.at c.args.label (sym c.has_cycle.ensures ∙ c.if-has_cycle.true)

pub returns-clause-answer : goal.returns-clause-answer
returns-clause-answer g c value are =
    let t = g.S.Schema.tables in
    let values : c.deref.result.now ≡ map (arg_value t c.args.kind value) c.args.args.now = c.deref.ensures.value ∙ c.in_ok-values.ensures value are in
    on_ok c.produced.result (λ a. a ≡ produced t c.args.at c.args.kind c.args.label c.deref.result.now) _ (λ a is.
    is
    ∙ ap (produced t c.args.at c.args.kind c.args.label) values
    ∙ called-produced t c.args.kind value c.args.args.now c.args.answers.now are c.args.at c.args.label (sym c.has_cycle.ensures ∙ c.if-has_cycle.false)) c.produced.ensures.answer
