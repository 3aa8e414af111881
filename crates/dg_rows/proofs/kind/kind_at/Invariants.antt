use Rattle.std.proofs.Common.{◌≡◌, map, drop}
use Rattle.dg_rows.specs.Rows.{kind_at}
use Rattle.dg_rows.specs.Read.{plain_kind}
use Rattle.dg_rows.proofs.kind.kind_at.Given as goal

abbrev pub invariant-loop-one : goal.invariant-loop-one
invariant-loop-one l = kind_at (map plain_kind (drop l.one-index l.kinds)) l.kind ≡ kind_at (map plain_kind l.kinds) l.kind
