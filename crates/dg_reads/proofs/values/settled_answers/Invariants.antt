use Rattle.std.proofs.Common.{◌≡◌, ◌-◌, length}
use Rattle.dg_reads.specs.AnswerTable.{answers_after}
use Rattle.dg_reads.proofs.values.settled_answers.Given as goal

abbrev pub invariant-loop-round : goal.invariant-loop-round
invariant-loop-round g l = record {
  long : length l.answers.items ≡ length l.rules;
  rest : answers_after (length l.rules - l._round) g.S.Schema.tables l.ends.keys l.rules l.answers.items
      ≡ answers_after (length l.rules) g.S.Schema.tables l.ends.keys l.rules l.fn.first.items;
}
