use Rattle.std.proofs.Common.{◌≡◌, drop}
use Rattle.dg_play.specs.Seen.{number_named}
use Rattle.dg_play.proofs.pins.number_named.Given as goal

abbrev pub invariant-loop-pin : goal.invariant-loop-pin
invariant-loop-pin l = number_named (drop l.pin-index l.pins) l.name ≡ number_named l.pins l.name
