use Rattle.std.proofs.Common.{◌≡◌, take, drop, length, map}
use Rattle.dg_base.specs.declared.answer.Answer.{Answer}
use Rattle.dg_base.specs.declared.ids.Endpoint.{Endpoint}
use Rattle.dg_base.specs.Rule.{named_by_args}
use Rattle.dg_base.specs.Value.{arg_value}
use Rattle.dg_answer.proofs.answering.arg_values.Given as goal

-- the arguments so far, and the answers that are left for the others
abbrev pub invariant-loop-arg : goal.invariant-loop-arg
invariant-loop-arg g l = record {
  enough : length (named_by_args (drop l.arg-index l.args)) ≡ length l.rest;
  so_far : (value : Endpoint → Answer) → l.answers ≡ map value (named_by_args l.args) →
      (l.all.items ≡ map (arg_value g.S.Schema.tables l.kind value) (take l.arg-index l.args))
      × (l.rest ≡ map value (named_by_args (drop l.arg-index l.args)));
}
