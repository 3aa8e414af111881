use Rattle.std.proofs.Common.{◌≡◌, drop}
use Rattle.dg_desc.specs.Faults.{fields_fault}
use Rattle.dg_desc.proofs.check.+check.Given as goal

abbrev pub invariant-fields_fault-loop-field : goal.invariant-fields_fault-loop-field
invariant-fields_fault-loop-field l = fields_fault l.message (drop l.field-index l.fields) ≡ fields_fault l.message l.fields
