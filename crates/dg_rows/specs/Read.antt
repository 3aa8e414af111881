-- How rows that hold their lists in slices read.
use Rattle.std.specs.Prelude.{List, map}
use Rattle.std.specs.Borrow.{Bor}
use Rattle.dg_base.specs.declared.ids.Label.{Label}
use Rattle.dg_base.specs.declared.schema.ArgSpec.{ArgSpec}
use Rattle.dg_rows.specs.declared.row.Entry.{Entry}
use Rattle.dg_rows.specs.declared.row.Entry.TheVariants.{Property, Single, Substituted, Array, Owned, OwnedArray, Output, Cached}
use Rattle.dg_rows.specs.declared.row.Row.{Row}
use Rattle.dg_rows.specs.declared.kind.KindRows.{KindRows}
use Rattle.dg_rows.specs.Rows.{PlainEntry, PlainRow, PlainKind}

-- what holds lists, read by a function
abbrev pub entry_by : {A : Type 0} → (A → List ArgSpec) → Entry A → PlainEntry
entry_by read (Property p) = Property p
entry_by read (Single t) = Single t
entry_by read (Substituted p) = Substituted p
entry_by read (Array t) = Array t
entry_by read (Owned t) = Owned t
entry_by read (OwnedArray t) = OwnedArray t
entry_by read (Output t args) = Output t (read args)
entry_by read (Cached t args) = Cached t (read args)

abbrev pub row_by : {A : Type 0} → (A → List ArgSpec) → Row A → PlainRow
row_by read r = record { 0 = r.0; 1 = entry_by read r.1 }

abbrev pub kind_by : {L R : Type 0} → (L → List Label) → (R → List PlainRow) → KindRows L R → PlainKind
kind_by labels rows k = record { kind = k.kind; is_open = k.is_open; labels = labels k.labels; rows = rows k.rows }

-- the slices of the code
abbrev pub plain_entry : Entry (Bor (List ArgSpec)) → PlainEntry
plain_entry e = entry_by (λ args. args.now) e

abbrev pub plain_row : Row (Bor (List ArgSpec)) → PlainRow
plain_row r = row_by (λ args. args.now) r

abbrev pub plain_kind : KindRows (Bor (List Label)) (Bor (List (Row (Bor (List ArgSpec))))) → PlainKind
plain_kind k = kind_by (λ labels. labels.now) (λ rows. map plain_row rows.now) k
