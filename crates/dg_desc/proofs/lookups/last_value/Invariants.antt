use Rattle.std.proofs.Common.{◌≡◌, drop, option_map}
use Rattle.std.specs.Option.{option_or}
use Rattle.dg_desc.specs.Lookups.{last_value}
use Rattle.dg_desc.proofs.lookups.last_value.Given as goal

abbrev pub invariant-loop-field : goal.invariant-loop-field
invariant-loop-field l =
    option_or (last_value l.name (drop l.field-index l.fields)) (option_map (λ v. v.now) l.found) ≡ last_value l.name l.fields
