use Rattle.std.proofs.Common.{◌≡◌, drop, false}
use Rattle.dg_desk.specs.Machine.{is_listed}
use Rattle.dg_desk.specs.Places.{pins_at}
use Rattle.dg_desk.proofs.records.found_in.Given as goal

abbrev pub invariant-loop-place : goal.invariant-loop-place
invariant-loop-place g l = is_listed (drop l.place (pins_at l.opened l.history l.places)) l.index ≡ false
