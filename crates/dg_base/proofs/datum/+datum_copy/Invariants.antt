use Rattle.std.proofs.Common.{◌≡◌, take}
use Rattle.dg_base.proofs.datum.+datum_copy.Given as goal

abbrev pub invariant-copy_items-loop-item : goal.invariant-copy_items-loop-item
invariant-copy_items-loop-item l = l.all ≡ take l.item-index l.items

abbrev pub invariant-copy_fields-loop-field : goal.invariant-copy_fields-loop-field
invariant-copy_fields-loop-field l = l.all ≡ take l.field-index l.fields
