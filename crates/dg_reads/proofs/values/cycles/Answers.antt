use Rattle.std.proofs.Common.{◌∷◌, ◌++◌, [], ◌∙◌, ap}
use Rattle.dg_base.specs.declared.answer.Answer.TheVariants as answer
use Rattle.dg_base.specs.declared.ids.Endpoint.{Endpoint}
use Rattle.dg_reads.proofs.AnswerTable.{push_map}
use Rattle.dg_reads.proofs.values.cycles.Goals as goal

abbrev nowhere : Endpoint
nowhere = record { node = record { 0 = 0 }; label = record { 0 = 0 } }

pub loop-end-preserved : goal.loop-end-preserved
loop-end-preserved c =
    push_map (λ o. answer.Cycle) c.loop-end.all.items c.push.new.self.items c.args.named.now c.loop-end._end-index nowhere c.loop-end-test.true
    (c.in_ok-push.ensures.items ∙ ap (λ a. c.loop-end.all.items ++ a ∷ []) c.in_ok-of.ensures)
    ∙ c.loop-end.invariant
