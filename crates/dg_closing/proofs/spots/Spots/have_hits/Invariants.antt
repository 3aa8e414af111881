use Rattle.std.proofs.Common.{take, Contains}
use Rattle.dg_base.specs.declared.ids.Endpoint.{Endpoint}
use Rattle.dg_closing.specs.Spots.{spot_of}
use Rattle.dg_closing.proofs.spots.Spots.have_hits.Given as goal

abbrev pub invariant-loop-hit : goal.invariant-loop-hit
invariant-loop-hit g l = (e : Endpoint) → Contains (take l.hit-index l.hit-items) e → Contains l.self (spot_of (g.M.Mark.seen l.revision) e)
