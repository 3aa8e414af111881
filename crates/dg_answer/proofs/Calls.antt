-- A call whose dependencies have these answers.
use Rattle.std.proofs.Common.{◌≡◌, Bool, true, false, cond, List, map, ap, sym, ◌∙◌}
use Rattle.std.specs.List.{list_any}
use Rattle.std.specs.Prelude.{Result, Ok, Err, IfOk}
use Rattle.dg_base.specs.declared.ids.Kind.{Kind}
use Rattle.dg_base.specs.declared.ids.Label.{Label}
use Rattle.dg_base.specs.declared.ids.Endpoint.{Endpoint}
use Rattle.dg_base.specs.declared.answer.Answer.{Answer}
use Rattle.dg_base.specs.declared.answer.Answer.TheVariants as answer
use Rattle.dg_base.specs.declared.rule.ArgRule.{ArgRule}
use Rattle.dg_base.specs.Tables.{Tables}
use Rattle.dg_base.specs.Rule.{named_by_args}
use Rattle.dg_base.specs.Value.{is_cycle, produced, arg_value, called_by}

module _ (t : Tables) (k : Kind) (value : Endpoint → Answer) (args : List ArgRule) (answers : List Answer) (are : answers ≡ map value (named_by_args args)) where
  cyclic : (b : Bool) → list_any is_cycle answers ≡ b → list_any is_cycle (map value (named_by_args args)) ≡ b
  cyclic b is = ap (list_any is_cycle) (sym are) ∙ is

  pub called-cycle : (e : Endpoint) (l : Label) → list_any is_cycle answers ≡ true → answer.Cycle ≡ called_by t e k l value args
  called-cycle e l is =
      sym (ap (λ b. cond b answer.Cycle (produced t e k l (map (arg_value t k value) args))) (cyclic true is))

  pub called-produced : (e : Endpoint) (l : Label) → list_any is_cycle answers ≡ false → produced t e k l (map (arg_value t k value) args) ≡ called_by t e k l value args
  called-produced e l is =
      sym (ap (λ b. cond b answer.Cycle (produced t e k l (map (arg_value t k value) args))) (cyclic false is))

-- what follows of each good result
pub on_ok : {X E : Type 0} (r : Result X E) (P : X → Type 0) (Q : X → Type 0) → ((x : X) → P x → Q x) → IfOk r P → IfOk r Q
on_ok (Ok x) P Q h p = h x p
on_ok (Err e) P Q h p = tt
