use Rattle.std.proofs.Common.{◌≡◌, ◌++◌, drop, filter_map}
use Rattle.dg_base.specs.Rule.{prop_of}
use Rattle.dg_reads.proofs.open_properties.props_in.Given as goal

abbrev pub invariant-loop-field : goal.invariant-loop-field
invariant-loop-field l = l.props ++ filter_map (λ f. prop_of f.value) (drop l.field-index l.fields) ≡ filter_map (λ f. prop_of f.value) l.fields
