use Rattle.std.proofs.Common.{◌≡◌, drop}
use Rattle.dg_base.specs.Graph.{value_in}
use Rattle.dg_fields.proofs.fields.value_in.Given as goal

abbrev pub invariant-loop-field : goal.invariant-loop-field
invariant-loop-field l = value_in (drop l.field-index l.fields) l.label ≡ value_in l.fields l.label
