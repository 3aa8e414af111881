use Rattle.std.proofs.Common.{rules, ◌∷◌, ◌++◌, [], ◌∙◌, ap}
use Rattle.dg_base.specs.declared.ids.Endpoint.{Endpoint}
use Rattle.dg_reads.specs.AnswerTable.{known}
use Rattle.dg_reads.proofs.AnswerTable.{push_map}
use Rattle.dg_reads.proofs.values.answers_at.Goals as goal

abbrev nowhere : Endpoint
nowhere = record { node = record { 0 = 0 }; label = record { 0 = 0 } }

pub loop-end-preserved : goal.loop-end-preserved
loop-end-preserved c =
    push_map (known c.args.ends.now.keys c.args.answers.now) c.loop-end.all.items c.push.new.self.items c.args.named.now c.loop-end.end-index nowhere c.loop-end-test.true
    (c.in_ok-push.ensures.items ∙ ap (λ a. c.loop-end.all.items ++ a ∷ []) (search rules))
    ∙ c.loop-end.invariant
