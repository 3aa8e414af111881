use Rattle.std.proofs.Common.{◌≡◌, ◌++◌, drop, map}
use Rattle.dg_reads.specs.AnswerTable.{known}
use Rattle.dg_reads.proofs.values.answers_at.Given as goal

abbrev pub invariant-loop-end : goal.invariant-loop-end
invariant-loop-end l = l.all.items ++ map (known l.ends.keys l.answers) (drop l.end-index l.named) ≡ map (known l.ends.keys l.answers) l.named
