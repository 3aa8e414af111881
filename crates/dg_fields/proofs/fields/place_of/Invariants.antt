use Rattle.std.proofs.Common.{◌≡◌, ◌+◌, drop}
use Rattle.dg_fields.specs.Places.{place_of}
use Rattle.dg_fields.proofs.fields.place_of.Given as goal

abbrev pub invariant-loop-field : goal.invariant-loop-field
invariant-loop-field l = (l.place ≡ l.field-index) × (l.place + place_of (drop l.field-index l.fields) l.label ≡ place_of l.fields l.label)
