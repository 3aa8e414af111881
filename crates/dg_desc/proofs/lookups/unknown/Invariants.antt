use Rattle.std.proofs.Common.{◌≡◌, ◌++◌, drop}
use Rattle.dg_desc.specs.Lookups.{unknown}
use Rattle.dg_desc.proofs.lookups.unknown.Given as goal

abbrev pub invariant-loop-field : goal.invariant-loop-field
invariant-loop-field l = l.all ++ unknown l.message (drop l.field-index l.fields) ≡ unknown l.message l.fields
