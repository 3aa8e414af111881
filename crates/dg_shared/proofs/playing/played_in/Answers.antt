use Rattle.std.proofs.Common.{◌≡◌}
use Rattle.dg_caller.specs.Calls.{live_in}
use Rattle.dg_editor.specs.Seeing.{state_of as editor_of}
use Rattle.dg_play.specs.Play.{State}
use Rattle.dg_play.specs.Seen.{begun_by, pins_of}
use Rattle.dg_shared.proofs.Plays.{asked, evictions, follows, lines, names, now, when_ok}
use Rattle.dg_shared.proofs.playing.played_in.Goals as goal

pub returns : goal.returns
returns g c =
    let begin = c.args.begin in let b : State = begun_by editor_of begin in
    let begun : record { editor = editor_of begin.game; pins = pins_of (live_in c.new.result.items) c.new-3.result.items; bound = begin.bound; names = begin.names } ≡ b =
    λ i. record { editor = editor_of begin.game; pins = pins_of (live_in c.new.result.items) (c.new-3.ensures.items i); bound = begin.bound; names = begin.names } in
    let played = when_ok _ _ c.in_ok-lines.lines c.in_ok-lines.was c.in_ok-own.ensures in
    let fresh = c.args.seats.first in let none = c.new-2.ensures.items in
    record {
      lines = lines b begun played;
      names = names b begun played;
      now = now b begun played;
      asked = asked b begun played fresh none;
      evictions = evictions b begun played fresh none;
      follows = follows b begun played fresh none;
    }
