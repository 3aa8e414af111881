use Rattle.std.proofs.Common.{◌≡◌, drop}
use Rattle.dg_kinds_go.specs.Components.{own_named}
use Rattle.dg_kinds_go.proofs.components.own_named.Given as goal

abbrev pub invariant-loop-value : goal.invariant-loop-value
invariant-loop-value l = own_named (drop l.value-index l.own) l.prop ≡ own_named l.own l.prop
