use Rattle.std.proofs.Common.{◌≡◌, take}
use Rattle.dg_fields.proofs.fields.copied.Given as goal

abbrev pub invariant-loop-field : goal.invariant-loop-field
invariant-loop-field l = l.all ≡ take l.field-index l.fields
