use Rattle.std.proofs.Common.{◌≡◌, ◌++◌, drop, map}
use Rattle.dg_reads.specs.AnswerTable.{first_answer_of}
use Rattle.dg_reads.proofs.values.first_answers.Given as goal

abbrev pub invariant-loop-one : goal.invariant-loop-one
invariant-loop-one g l = l.all.items ++ map (first_answer_of g.S.Schema.tables) (drop l.one-index l.rules) ≡ map (first_answer_of g.S.Schema.tables) l.rules
