use Rattle.std.proofs.Common.{◌∙◌}
use Rattle.dg_answer.proofs.KeptFaults.{keep_answer}
use Rattle.dg_answer.proofs.faults.keep_of_all.Goals as goal

pub loop-answer-preserved : goal.loop-answer-preserved
loop-answer-preserved c =
    keep_answer c.loop-answer.kept.items c.keep_of.new.kept.items c.args.answers.now c.loop-answer.answer-index c.answer-item.result c.loop-answer-test.true c.answer-item.is c.in_ok-keep_of.ensures
    ∙ c.loop-answer.invariant
