-- Kinds as rows, and the tables of a schema as look-ups in them.
use Rattle.std.specs.Prelude.{List, [], ◌∷◌, Bool, true, false, cond, ◌==◌, Option, Some, None}
use Rattle.dg_base.specs.declared.ids.Label.{Label}
use Rattle.dg_base.specs.declared.ids.Kind.{Kind}
use Rattle.dg_base.specs.declared.datum.Datum.{Datum}
use Rattle.dg_base.specs.declared.datum.Datum.TheVariants as datum
use Rattle.dg_base.specs.declared.schema.Ty.{Ty}
use Rattle.dg_base.specs.declared.schema.Ty.TheVariants as ty
use Rattle.dg_base.specs.declared.schema.Role.{Role}
use Rattle.dg_base.specs.declared.schema.Role.TheVariants as role
use Rattle.dg_base.specs.declared.schema.ArgSpec.{ArgSpec}
use Rattle.dg_base.specs.declared.schema.ArgVal.{ArgVal}
use Rattle.dg_base.specs.declared.schema.Made.{Made}
use Rattle.dg_base.specs.Same.{same_label}
use Rattle.dg_base.specs.Tables.{Tables}
use Rattle.dg_rows.specs.declared.row.Preset.{Preset}
use Rattle.dg_rows.specs.declared.row.Preset.TheVariants as preset
use Rattle.dg_rows.specs.declared.row.Entry.{Entry}
use Rattle.dg_rows.specs.declared.row.Entry.TheVariants.{Property, Single, Substituted, Array, Owned, OwnedArray, Output, Cached}
use Rattle.dg_rows.specs.declared.row.Row.{Row}
use Rattle.dg_rows.specs.declared.kind.KindRows.{KindRows}

-- rows and kinds that hold their lists as lists
abbrev pub PlainEntry : Type 0
PlainEntry = Entry (List ArgSpec)

abbrev pub PlainRow : Type 0
PlainRow = Row (List ArgSpec)

abbrev pub PlainKind : Type 0
PlainKind = KindRows (List Label) (List PlainRow)

-- a preset says its type and its value
abbrev pub type_of : Preset → Ty
type_of (preset.Number n) = ty.Number
type_of preset.Text = ty.Text
type_of (preset.Flag b) = ty.Flag
type_of (preset.Vec3 v) = ty.Vec3
type_of (preset.Quat v) = ty.Quat

abbrev pub datum_of : Preset → Datum
datum_of (preset.Number n) = datum.Dec n
datum_of preset.Text = datum.Text []
datum_of (preset.Flag b) = datum.Flag b
datum_of (preset.Vec3 v) = datum.Vec3 v
datum_of (preset.Quat v) = datum.Quat v

-- what the first row of a label says
abbrev pub entry_at : List PlainRow → Label → Option PlainEntry
entry_at [] l = None
entry_at (x ∷ xs) l = cond (same_label l x.0) (Some x.1) (entry_at xs l)

abbrev pub role_of : Option PlainEntry → Role
role_of None = role.Nothing
role_of (Some (Property p)) = role.Property (type_of p)
role_of (Some (Single t)) = role.Input t false false false
role_of (Some (Substituted p)) = role.Input (type_of p) false false true
role_of (Some (Array t)) = role.Input t true false false
role_of (Some (Owned t)) = role.Input t false true false
role_of (Some (OwnedArray t)) = role.Input t true true false
role_of (Some (Output t args)) = role.Output t false
role_of (Some (Cached t args)) = role.Output t true

abbrev pub args_of : Option PlainEntry → List ArgSpec
args_of (Some (Output t args)) = args
args_of (Some (Cached t args)) = args
args_of _ = []

abbrev pub preset_of : Option PlainEntry → Datum
preset_of (Some (Property p)) = datum_of p
preset_of _ = datum.Nil

abbrev pub substitute_of : Option PlainEntry → Datum
substitute_of (Some (Substituted p)) = datum_of p
substitute_of _ = datum.Nil

-- the kind of a number; one that isn't in the table has no labels, no rows, and isn't open
abbrev pub kind_at : List PlainKind → Kind → Option PlainKind
kind_at [] k = None
kind_at (x ∷ xs) k = cond (k.0 == x.kind.0) (Some x) (kind_at xs k)

abbrev pub rows_of : Option PlainKind → List PlainRow
rows_of None = []
rows_of (Some x) = x.rows

abbrev pub labels_of : Option PlainKind → List Label
labels_of None = []
labels_of (Some x) = x.labels

abbrev pub is_open_of : Option PlainKind → Bool
is_open_of None = false
is_open_of (Some x) = x.is_open

abbrev pub rows_in : List PlainKind → Kind → List PlainRow
rows_in kinds k = rows_of (kind_at kinds k)

abbrev pub labels_in : List PlainKind → Kind → List Label
labels_in kinds k = labels_of (kind_at kinds k)

abbrev pub is_open_in : List PlainKind → Kind → Bool
is_open_in kinds k = is_open_of (kind_at kinds k)

-- the tables of a schema that has these kinds and productions
abbrev pub tables_of : List PlainKind → (Kind → Label → List ArgVal → Made) → Tables
tables_of kinds produce = record {
  labels = λ k. labels_in kinds k;
  role = λ k l. role_of (entry_at (rows_in kinds k) l);
  is_open = λ k. is_open_in kinds k;
  args = λ k l. args_of (entry_at (rows_in kinds k) l);
  preset = λ k l. preset_of (entry_at (rows_in kinds k) l);
  substitute = λ k l. substitute_of (entry_at (rows_in kinds k) l);
  produce = produce;
}
