use Rattle.std.proofs.Common.{◌≡◌, ◌++◌, drop}
use Rattle.dg_reads.specs.AnswerTable.{known, next_answers}
use Rattle.dg_reads.proofs.values.next_answers.Given as goal

abbrev pub invariant-loop-place : goal.invariant-loop-place
invariant-loop-place g l =
    l.all.items ++ next_answers g.S.Schema.tables (known l.ends.keys l.answers) (drop l.place l.rules) (drop l.place l.answers)
    ≡ next_answers g.S.Schema.tables (known l.ends.keys l.answers) l.rules l.answers
