use Rattle.std.proofs.Common.{◌≡◌, ℕ, Bool, cond, List, map, ap, sym, ◌∙◌}
use Rattle.std.specs.List.{list_any}
use Rattle.dg_base.specs.declared.answer.Answer.{Answer}
use Rattle.dg_base.specs.declared.schema.ArgVal.{ArgVal}
use Rattle.dg_base.specs.Rule.{named_by_args}
use Rattle.dg_base.specs.Value.{is_cycle, arg_value, faults_of_args, one_without, productions_of_call}
use Rattle.dg_answer.proofs.Calls.{on_ok}
use Rattle.dg_eval.proofs.producing.of_call.Goals as goal

pub returns : goal.returns
returns g c value are =
    let t = g.S.Schema.tables in
    let values : c.deref.result.now ≡ map (arg_value t c.args.kind value) c.args.args.now = c.deref.ensures.value ∙ c.in_ok-values.ensures value are in
    let cycle = ap (list_any is_cycle) (sym are) in
    on_ok c.one_without_faults.result (λ n. n ≡ one_without (faults_of_args c.deref.result.now)) (λ n. n ≡ productions_of_call t c.args.kind value c.args.args.now) (λ n is.
    is
    ∙ ap (λ (z : List ArgVal). one_without (faults_of_args z)) values
    ∙ sym (ap (λ (b : Bool). cond b 0 (one_without (faults_of_args (map (arg_value t c.args.kind value) c.args.args.now)))) (cycle ∙ sym c.has_cycle.ensures ∙ c.if-has_cycle.false))) c.one_without_faults.ensures
