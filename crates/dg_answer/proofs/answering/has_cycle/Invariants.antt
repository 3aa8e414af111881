use Rattle.std.proofs.Common.{◌≡◌, drop}
use Rattle.std.specs.List.{list_any}
use Rattle.dg_base.specs.Value.{is_cycle}
use Rattle.dg_answer.proofs.answering.has_cycle.Given as goal

abbrev pub invariant-loop-answer : goal.invariant-loop-answer
invariant-loop-answer l = list_any is_cycle (drop l.answer-index l.answers) ≡ list_any is_cycle l.answers
