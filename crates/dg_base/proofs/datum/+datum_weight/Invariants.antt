use Rattle.std.proofs.Common.{◌≡◌, ◌-◌, ◌^◌, min, take}
use Rattle.dg_base.specs.Weight.{weights_of, field_weights_of}
use Rattle.dg_base.proofs.datum.+datum_weight.Given as goal

abbrev pub invariant-weight_of_items-loop-item : goal.invariant-weight_of_items-loop-item
invariant-weight_of_items-loop-item l = l.all ≡ min (weights_of (take l.item-index l.items)) (2 ^ 64 - 1)

abbrev pub invariant-weight_of_fields-loop-field : goal.invariant-weight_of_fields-loop-field
invariant-weight_of_fields-loop-field l = l.all ≡ min (field_weights_of (take l.field-index l.fields)) (2 ^ 64 - 1)
