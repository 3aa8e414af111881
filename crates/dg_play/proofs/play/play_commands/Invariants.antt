use Rattle.std.proofs.Common.{◌≡◌, ◌+◌, drop, map}
use Rattle.dg_kinds_coll.specs.Defold.{defold_tables}
use Rattle.dg_play.specs.Play.{played}
use Rattle.dg_play.specs.Seen.{state_by, line_by}
use Rattle.dg_play.specs.States.{IsPlayed}
use Rattle.dg_play.proofs.Turns.{LeavesSoFar, ahead}
use Rattle.dg_play.proofs.play.play_commands.Given as goal

abbrev pub invariant-loop-command : goal.invariant-loop-command
invariant-loop-command g l = record {
  lines : ahead (map (line_by g.P.Session.asked) l.lines.items) (played defold_tables (drop l.command-index l.commands) (state_by g.P.Session.shows l.state)) ≡ played defold_tables l.commands (state_by g.P.Session.shows l.initial.state);
  played : IsPlayed g.P.Session.is_ready g.P.Session.shows l.state;
  work : LeavesSoFar g.P.Session.has_done defold_tables l.initial.state.session l.state.session l.commands (state_by g.P.Session.shows l.initial.state) (drop l.command-index l.commands) (state_by g.P.Session.shows l.state);
  steps : l.steps + g.P.Session.made l.initial.state.session ≡ l.initial.steps + g.P.Session.made l.state.session;
}
