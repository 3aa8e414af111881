use Rattle.std.proofs.Common.{◌≤◌, ◌+◌, List, [], ◌∷◌, length, drop, map, ap, sym, ◌∙◌, subst, arith}
use Rattle.std.proofs.lemmas.List.{map-append}
use Rattle.dg_kinds_coll.specs.Defold.{defold_tables}
use Rattle.dg_play.specs.declared.reply.Line.{Line as CodeLine}
use Rattle.dg_play.specs.Play.{Line, played}
use Rattle.dg_play.specs.Seen.{line_by, reply_by, state_by}
use Rattle.dg_play.proofs.Turns.{ahead, left_more, turn_more, work_end}
use Rattle.dg_play.proofs.play.play_commands.Goals as goal

pub loop-command-preserved : goal.loop-command-preserved
loop-command-preserved g c =
    let i = c.loop-command.invariant in
    let cs = c.args.commands.now in let k = c.loop-command.command-index in
    let s = state_by g.P.Session.shows c.loop-command.state in
    let z = state_by g.P.Session.shows c.turn.new.state in
    let reply = reply_by g.P.Session.asked c.in_ok-reply.reply in
    let steps = c.in_ok-reply.ensures.steps in
    let so_far = i.steps in
    record {
      lines =
          ap (λ (ls : List (CodeLine g.row.P-Answer.Denot)). ahead (map (line_by g.P.Session.asked) ls) (played defold_tables (drop (k + 1) cs) z)) c.in_ok-push.ensures.items
          ∙ ap (λ (ls : List Line). ahead ls (played defold_tables (drop (k + 1) cs) z)) (map-append (line_by g.P.Session.asked) c.loop-command.lines.items (record { number = c.command-item.result.line; reply = c.in_ok-reply.reply } ∷ []))
          ∙ turn_more defold_tables cs k c.command-item.result c.command-item.is c.loop-command-test.true s (map (line_by g.P.Session.asked) c.loop-command.lines.items) z reply c.in_ok-reply.ensures.turn
          ∙ i.lines;
      played = c.in_ok-reply.ensures.played;
      work = left_more g.P.Session.has_done defold_tables c.args.state.now.session c.loop-command.state.session c.turn.new.state.session cs k c.command-item.result (state_by g.P.Session.shows c.args.state.now) s z reply c.command-item.is
          c.loop-command-test.true c.in_ok-reply.ensures.turn c.in_ok-reply.ensures.work i.work;
      steps = omega (arith, steps, so_far);
    }

pub returns-clause-work : goal.returns-clause-work
returns-clause-work g c first capacity w done =
    let left = c.loop-command.invariant.work first capacity w done in
    let end : length c.args.commands.now ≤ c.loop-command.command-index = omega (arith, c.loop-command-test.false) in
    subst (g.P.Session.has_done c.loop-command.state.session first capacity)
    (sym (work_end defold_tables capacity c.args.commands.now c.loop-command.command-index (state_by g.P.Session.shows c.loop-command.state) left.0 end) ∙ left.2) left.1
