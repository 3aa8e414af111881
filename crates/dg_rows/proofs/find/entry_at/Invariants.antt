use Rattle.std.proofs.Common.{◌≡◌, map, drop}
use Rattle.dg_rows.specs.Rows.{entry_at}
use Rattle.dg_rows.specs.Read.{plain_row}
use Rattle.dg_rows.proofs.find.entry_at.Given as goal

abbrev pub invariant-loop-row : goal.invariant-loop-row
invariant-loop-row l = entry_at (map plain_row (drop l.row-index l.rows)) l.label ≡ entry_at (map plain_row l.rows) l.label
