use Rattle.std.proofs.Common.{◌≡◌, drop, flat_map}
use Rattle.dg_base.specs.Value.{faults_of}
use Rattle.dg_answer.specs.Kept.{keep_all}
use Rattle.dg_answer.proofs.faults.keep_of_all.Given as goal

abbrev pub invariant-loop-answer : goal.invariant-loop-answer
invariant-loop-answer l = keep_all l.kept.items (flat_map faults_of (drop l.answer-index l.answers)) ≡ keep_all l.initial.kept.items (flat_map faults_of l.answers)
