-- Why a tree is no such file: the first fault of its fields in the order of the text, each message's own fields before
-- those that follow it, and at a message's end the first required field that isn't there.
use Rattle.std.specs.Prelude.{ℕ, List, [], ◌∷◌, Bool, true, false, not, cond, ◌&&◌, Option, Some, None, is_some, bytes_eq}
use Rattle.std.specs.List.{list_any}
use Rattle.std.specs.Option.{option_or}
use Rattle.dg_ptext.specs.declared.tree.Field.{Field}
use Rattle.dg_ptext.specs.declared.tree.Value.{Value, Bare, Quoted, Message', Row_of-Field, end_of-Field, more_of-Field, items-the_row-Field}
use Rattle.dg_desc.specs.declared.known.Message.{Message}
use Rattle.dg_desc.specs.declared.known.FieldName.{FieldName}
use Rattle.dg_desc.specs.declared.known.Form.{Form}
use Rattle.dg_desc.specs.declared.known.Form.TheVariants as form
use Rattle.dg_desc.specs.declared.known.Row.{Row}
use Rattle.dg_desc.specs.declared.known.Place.{Place}
use Rattle.dg_desc.specs.declared.refusal.DescCode.{DescCode}
use Rattle.dg_desc.specs.declared.refusal.DescCode.TheVariants as code
use Rattle.dg_desc.specs.Known.{label_of, rows_of, place_in}
use Rattle.dg_desc.specs.Words.{is_decimal, type_named, switch_named, is_kind}

-- ---- what is missing

abbrev pub is_named : FieldName → Field → Bool
is_named n f = bytes_eq f.name (label_of n)

abbrev pub is_there : FieldName → List Field → Bool
is_there n fields = list_any (is_named n) fields

abbrev pub is_missing : List Field → Row → Bool
is_missing fields r = r.required && not (is_there r.name fields)

-- the first required field that isn't there
abbrev pub missing : List Row → ℕ → List Field → Option DescCode
missing [] line fields = None
missing (r ∷ rs) line fields = cond (is_missing fields r) (Some (code.Missing line r.name)) (missing rs line fields)

-- ---- what has another form

abbrev pub fits_bare : Form → List ℕ → Bool
fits_bare form.Any word = true
fits_bare form.Decimal word = is_decimal word
fits_bare form.PropertyType word = is_some (type_named word)
fits_bare form.Switch word = is_some (switch_named word)
fits_bare _ word = false

abbrev pub fits_quoted : Form → List ℕ → Bool
fits_quoted form.Any text = true
fits_quoted form.Text text = true
fits_quoted form.Kind text = is_kind text
fits_quoted _ text = false

abbrev pub unless : Bool → ℕ → Place → Option DescCode
unless fits line place = cond fits None (Some (code.Form line place.name))

-- a message where one may stand is looked at in turn
abbrev pub message_fault : Form → ℕ → Place → (Message → Option DescCode) → Option DescCode
message_fault form.Any line place inner = None
message_fault (form.Inner m) line place inner = inner m
message_fault _ line place inner = Some (code.Form line place.name)

abbrev mutual
  pub value_fault : Place → ℕ → Value → Option DescCode
  value_fault place line (Bare word) = unless (fits_bare place.form word) line place
  value_fault place line (Quoted text) = unless (fits_quoted place.form text) line place
  value_fault place line (Message' shape fields) =
      message_fault place.form line place (λ m. option_or (row_fault m fields) (missing (rows_of m) line (items-the_row-Field _ fields)))

  pub row_fault : {n : _} → Message → Row_of-Field n → Option DescCode
  row_fault m end_of-Field = None
  row_fault m (more_of-Field name line value rest) =
      option_or (value_fault (place_in m name) line value) (row_fault m rest)

-- the first field of another form
abbrev pub fields_fault : Message → List Field → Option DescCode
fields_fault m [] = None
fields_fault m (f ∷ fs) = option_or (value_fault (place_in m f.name) f.line f.value) (fields_fault m fs)

-- the first fault of a message whose own field stands on this line
abbrev pub fault_of : Message → ℕ → List Field → Option DescCode
fault_of m line fields = option_or (fields_fault m fields) (missing (rows_of m) line fields)
