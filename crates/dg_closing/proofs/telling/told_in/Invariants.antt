use Rattle.std.proofs.Common.{take}
use Rattle.dg_closing.specs.Closing.{AreToldWhere, asks_of}
use Rattle.dg_closing.specs.Spots.{AreSpotted}
use Rattle.dg_closing.proofs.telling.told_in.Given as goal

abbrev pub invariant-loop-event : goal.invariant-loop-event
invariant-loop-event g l = record {
  spots : AreSpotted g.N.Mark.Mark.seen (take l.event-index l.history) l.spots;
  told : AreToldWhere (take l.event-index l.history) l.told.items (asks_of l.asked);
}
