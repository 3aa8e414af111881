use Rattle.std.proofs.Common.{◌≡◌, [], rules, subst, map, length}
use Rattle.std.specs.Result.{IfOk}
use Rattle.indexmap.specs.IndexSet.{insert_all}
use Rattle.dg_base.specs.declared.answer.Answer.{Answer}
use Rattle.dg_base.specs.Same.{same_end}
use Rattle.dg_base.specs.Rule.{endpoints}
use Rattle.dg_reads.specs.AnswerTable.{known, endpoint_rule, first_answer_of, answers_after}
use Rattle.dg_reads.proofs.AnswerTable.{table_made}
use Rattle.dg_reads.proofs.values.plain_value.Goals as goal

pub returns : goal.returns
returns g c =
    let t = g.S.Schema.tables in
    let keys = c.in_ok-ends.ends.keys in
    let rules_ = c.in_ok-rules.rules.items in
    let first = c.in_ok-first.first.items in
    let answers = c.in_ok-answers.answers.items in
    let ends_is : c.in_ok-ends.ends.keys ≡ insert_all same_end [] (endpoints t (g.G.CoreReads.graph c.args.graph.now)) = search rules in
    let rules_is : c.in_ok-rules.rules.items ≡ map (endpoint_rule t (g.G.CoreReads.graph c.args.graph.now)) c.in_ok-ends.ends.keys = search rules in
    let first_is : c.in_ok-first.first.items ≡ map (first_answer_of t) c.in_ok-rules.rules.items = search rules in
    let answers_is : c.in_ok-answers.answers.items ≡ answers_after (length c.in_ok-rules.rules.items) t c.in_ok-ends.ends.keys c.in_ok-rules.rules.items c.in_ok-first.first.items = search rules in
    let found : IfOk c.known.result (λ v. v ≡ known c.in_ok-ends.ends.keys c.in_ok-answers.answers.items c.args.at) = search rules in
    subst (λ (z : Answer). IfOk c.known.result (λ v. v ≡ z))
    (table_made c.is_sound.ensures g.met.S.Schema.laws keys rules_ first answers c.args.at ends_is rules_is first_is answers_is) found
