use Rattle.std.proofs.Common.{◌≡◌, ◌+◌, take}
use Rattle.dg_desk.specs.Desks.{state_of}
use Rattle.dg_asks.specs.Told.{AreUnrefused}
use Rattle.dg_closing.specs.Closing.{AreToldBelow, AreToldWhere, IsGrown, asks_of}
use Rattle.dg_closing.proofs.completing.complete.Given as goal

abbrev pub invariant-loop-number : goal.invariant-loop-number
invariant-loop-number g l = record {
  answers : l.answers.items ≡ asks_of (take l.number l.asked);
  grown : IsGrown l.fn.desk l.desk;
  now : (state_of g.N.Mark.Mark.seen l.desk).now.revision ≡ l.here.revision;
  told : AreToldBelow l.desk.history l.number (asks_of l.asked);
  flags : AreToldWhere l.desk.history l.told.items (asks_of l.asked);
  unrefused : AreUnrefused l.desk.history;
  steps : l.steps ≡ l.fn.steps + l.made;
}
