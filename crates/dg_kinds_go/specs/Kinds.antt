-- The kinds of the code's table, with lists in place of slices.
use Rattle.std.specs.Prelude.{List, map}
use Rattle.dg_rows.specs.Rows.{PlainKind}
use Rattle.dg_rows.specs.Read.{row_by, kind_by}
use Rattle.dg_kinds_go.specs.declared.table.TheConstants.{GO_KINDS}

abbrev pub go_kinds : List PlainKind
go_kinds = map (kind_by (λ labels. labels.now) (λ rows. map (row_by (λ args. args.now)) rows.now)) GO_KINDS
