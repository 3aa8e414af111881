use Rattle.std.proofs.Common.{◌≡◌, drop}
use Rattle.dg_desc.specs.Faults.{missing}
use Rattle.dg_desc.proofs.check.missing.Given as goal

abbrev pub invariant-loop-row : goal.invariant-loop-row
invariant-loop-row l = missing (drop l.row-index l.rows) l.line l.fields ≡ missing l.rows l.line l.fields
