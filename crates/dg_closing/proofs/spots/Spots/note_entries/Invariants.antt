use Rattle.std.proofs.Common.{◌⊎◌, take, Contains}
use Rattle.dg_closing.specs.declared.spots.Spot.{Spot}
use Rattle.dg_closing.specs.Spots.{HasSpot}
use Rattle.dg_closing.proofs.spots.Spots.note_entries.Given as goal

abbrev pub invariant-loop-entry : goal.invariant-loop-entry
invariant-loop-entry g l = (s : Spot) → Contains l.self s → Contains l.initial.self s ⊎ HasSpot (g.M.Mark.seen l.revision) (take l.entry-index l.entry-items) s
