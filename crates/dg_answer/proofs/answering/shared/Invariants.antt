use Rattle.std.proofs.Common.{◌≡◌, take}
use Rattle.dg_answer.proofs.answering.shared.Given as goal

abbrev pub invariant-loop-answer : goal.invariant-loop-answer
invariant-loop-answer l = l.all ≡ take l.answer-index l.answers
