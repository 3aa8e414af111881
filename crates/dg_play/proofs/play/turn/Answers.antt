use Rattle.std.proofs.Common.{◌≡◌, ℕ, List, IfOk, refl, subst}
use Rattle.dg_bind.specs.Question.{node_of_question}
use Rattle.dg_play.specs.declared.reply.Reply.{Reply as CodeReply}
use Rattle.dg_play.specs.Play.{Turn, alias, graph_now}
use Rattle.dg_play.specs.Seen.{reply_by, state_by}
use Rattle.dg_play.proofs.Turns.{named-left}
use Rattle.dg_play.proofs.play.turn.Goals as goal

pub returns-in-Alias-clause-work : goal.returns-in-Alias-clause-work
returns-in-Alias-clause-work g c =
    let s = state_by g.P.Session.shows c.args.state.now in
    let z = state_by g.P.Session.shows c.alias.new.state in
    let named = subst (λ (n : List ℕ). IfOk c.alias.result (λ (r : CodeReply g.row.P-Answer.Denot). ◌≡◌ {A = Turn} (alias s n (node_of_question (graph_now s) s.bound c.as_str-in-Alias-2.result.now)) (record { state = z; reply = reply_by g.P.Session.asked r })))
    c.as_str-in-Alias.ensures c.alias.ensures.turn in
    let found = subst (λ (n : List ℕ). IfOk c.alias.result (λ (r : CodeReply g.row.P-Answer.Denot). ◌≡◌ {A = Turn} (alias s c.in-Alias.name (node_of_question (graph_now s) s.bound n)) (record { state = z; reply = reply_by g.P.Session.asked r })))
    c.as_str-in-Alias-2.ensures named in
    rw c.in-Alias.is (named-left g.P.Session.shows g.P.Session.has_done c.alias.result c.args.state.now.session c.alias.new.state.session (alias s c.in-Alias.name (node_of_question (graph_now s) s.bound c.in-Alias.node)) z
    (reply_by g.P.Session.asked) found c.alias.ensures.session refl)
