use Rattle.std.proofs.Common.{◌≡◌, drop}
use Rattle.dg_desc.specs.Known.{row_in}
use Rattle.dg_desc.proofs.known.row_in.Given as goal

abbrev pub invariant-loop-row : goal.invariant-loop-row
invariant-loop-row l = row_in (drop l.row-index l.rows) l.label ≡ row_in l.rows l.label
