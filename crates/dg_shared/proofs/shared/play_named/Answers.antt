use Rattle.std.proofs.Common.{ap, ◌∙◌, map}
use Rattle.dg_asks.specs.Asks.{asking_ask}
use Rattle.dg_editor.specs.Seeing.{state_of as editor_of}
use Rattle.dg_play.specs.Desk.{answers_in}
use Rattle.dg_play.specs.Seen.{begun_by}
use Rattle.dg_shared.proofs.Desks.{shared-desk, shared-lines}
use Rattle.dg_shared.proofs.shared.play_named.Goals as goal

pub closed-requires : goal.closed-requires
closed-requires g c = c.in_ok-left.ensures.asked ∙ ap answers_in c.in_ok-left.ensures.lines

pub returns-clause-lines : goal.returns-clause-lines
returns-clause-lines g c =
    shared-lines c.args.commands.now (begun_by editor_of c.args.begin) c.in_ok-left.left.lines.items c.closed.result c.in_ok-left.ensures.lines c.closed.ensures.lines

pub returns-clause-desk : goal.returns-clause-desk
returns-clause-desk g c =
    let left = c.in_ok-left.left in let played = c.in_ok-left.ensures in let closed = c.closed.ensures in
    shared-desk c.args.commands.now (begun_by editor_of c.args.begin) left.editor.here.revision (map asking_ask left.asked.items) left.pass.made.follows left.pass.made.evictions c.closed.result
    played.now played.asked played.evictions played.follows closed.coherent closed.now closed.follows closed.evictions closed.unrefused closed.told
