use Rattle.std.proofs.Common.{◌≡◌, take}
use Rattle.dg_desc.proofs.copying.+copying.Given as goal

abbrev pub invariant-copy_fields-loop-field : goal.invariant-copy_fields-loop-field
invariant-copy_fields-loop-field l = l.all ≡ take l.field-index l.fields
