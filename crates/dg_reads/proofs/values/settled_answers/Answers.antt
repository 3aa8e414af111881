use Rattle.std.proofs.Common.{◌≡◌, ◌∙◌, ap, rules, length, count_by}
use Rattle.dg_base.specs.declared.answer.Answer.{Answer}
use Rattle.std.proofs.Common.{List}
use Rattle.dg_base.specs.Value.{is_cycle}
use Rattle.dg_reads.specs.AnswerTable.{known, next_answers}
use Rattle.dg_reads.proofs.AnswerTable.{no_round, one_round, length_next}
use Rattle.dg_reads.proofs.values.settled_answers.Goals as goal

pub returns-then-cycle_count : goal.returns-then-cycle_count
returns-then-cycle_count g c =
    let t = g.S.Schema.tables in
    let keys = c.args.ends.now.keys in
    let past = c.loop-round.answers.items in
    let is : c.in_ok-next.next.items ≡ next_answers t (known keys past) c.args.rules.now past =
    c.in_ok-next.ensures ∙ ap (λ (z : List Answer). next_answers t (known keys z) c.args.rules.now z) c.deref.ensures.value in
    let count : count_by is_cycle c.in_ok-next.next.items ≡ count_by is_cycle past = search rules in
    no_round (length c.args.rules.now) c.loop-round._round t keys c.args.rules.now past c.in_ok-next.next.items c.args.first.items c.loop-round.invariant.long is count c.loop-round.invariant.rest

pub loop-round-preserved : goal.loop-round-preserved
loop-round-preserved g c =
    let t = g.S.Schema.tables in
    let keys = c.args.ends.now.keys in
    let past = c.loop-round.answers.items in
    let is : c.in_ok-next.next.items ≡ next_answers t (known keys past) c.args.rules.now past =
    c.in_ok-next.ensures ∙ ap (λ (z : List Answer). next_answers t (known keys z) c.args.rules.now z) c.deref.ensures.value in
    record {
      long = ap (λ (z : List Answer). length z) is ∙ length_next t (known keys past) c.args.rules.now past c.loop-round.invariant.long;
      rest = one_round (length c.args.rules.now) c.loop-round._round t keys c.args.rules.now past c.in_ok-next.next.items c.args.first.items c.loop-round-test.true is c.loop-round.invariant.rest;
    }
