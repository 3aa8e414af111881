-- All kinds: those of collections, and then those of game objects.
use Rattle.std.specs.Prelude.{List, ◌++◌, map, Bool, ◌==◌, ◌||◌}
use Rattle.dg_base.specs.declared.ids.Kind.{Kind}
use Rattle.dg_labels.specs.declared.kinds.TheConstants as kinds
use Rattle.dg_rows.specs.Rows.{PlainKind}
use Rattle.dg_rows.specs.Read.{row_by, kind_by}
use Rattle.dg_kinds_go.specs.Kinds.{go_kinds}
use Rattle.dg_kinds_coll.specs.declared.table.TheConstants.{COLL_KINDS}

abbrev pub coll_kinds : List PlainKind
coll_kinds = map (kind_by (λ labels. labels.now) (λ rows. map (row_by (λ args. args.now)) rows.now)) COLL_KINDS

abbrev pub defold_kinds : List PlainKind
defold_kinds = coll_kinds ++ go_kinds

-- the kinds of the first part
abbrev pub is_coll_kind : Kind → Bool
is_coll_kind k = (k.0 == kinds.GO_INSTANCE.0 || k.0 == kinds.COLL_INSTANCE.0) || k.0 == kinds.COLLECTION.0
