-- What the fields of a message without fault give. Of the fields with one name that may stand once the last counts.
use Rattle.std.specs.Prelude.{ℕ, List, [], ◌∷◌, Bool, false, cond, ℤ, pos, Option, Some, None, is_none, Result, Ok, Err}
use Rattle.std.specs.List.{filter}
use Rattle.std.specs.Option.{option_map, option_or}
use Rattle.dg_base.specs.declared.datum.PType.{PType}
use Rattle.dg_base.specs.declared.datum.PType.TheVariants as ptype
use Rattle.dg_base.specs.declared.datum.V3.{V3}
use Rattle.dg_base.specs.declared.datum.V4.{V4}
use Rattle.dg_decimal.specs.Reading.{reading}
use Rattle.dg_ptext.specs.declared.tree.Field.{Field}
use Rattle.dg_ptext.specs.declared.tree.Value.{Value, Bare, Quoted, Message', items-the_row-Field}
use Rattle.dg_desc.specs.declared.known.Message.{Message}
use Rattle.dg_desc.specs.declared.known.FieldName.{FieldName}
use Rattle.dg_desc.specs.declared.known.FieldName.TheVariants as name
use Rattle.dg_desc.specs.Known.{rows_of, row_in}
use Rattle.dg_desc.specs.Words.{type_named, switch_named}
use Rattle.dg_desc.specs.Faults.{is_named}

-- ---- fields by their name

abbrev pub here : FieldName → Field → Option Value
here n f = cond (is_named n f) (Some f.value) None

-- the value of the last field of a name
abbrev pub last_value : FieldName → List Field → Option Value
last_value n [] = None
last_value n (f ∷ fs) = option_or (last_value n fs) (here n f)

-- all fields of a name, and all of no known one, in order
abbrev pub fields_named : FieldName → List Field → List Field
fields_named n fields = filter (is_named n) fields

abbrev pub is_unknown : Message → Field → Bool
is_unknown m f = is_none (row_in (rows_of m) f.name)

abbrev pub unknown : Message → List Field → List Field
unknown m fields = filter (is_unknown m) fields

-- ---- values

abbrev pub fields_in : Value → List Field
fields_in (Message' shape fields) = items-the_row-Field _ fields
fields_in _ = []

abbrev pub text_in : Value → List ℕ
text_in (Quoted text) = text
text_in _ = []

abbrev pub text_or_none : Option Value → List ℕ
text_or_none None = []
text_or_none (Some v) = text_in v

-- the text of a field
abbrev pub text_of : FieldName → List Field → List ℕ
text_of n fields = text_or_none (last_value n fields)

abbrev pub word_in : Value → List ℕ
word_in (Bare word) = word
word_in _ = []

abbrev pub read_or : {E : Type 0} → ℤ → Result ℤ E → ℤ
read_or other (Ok z) = z
read_or other (Err e) = other

-- the number of a field, and another where it is absent
abbrev pub number_or : ℤ → Option Value → ℤ
number_or other None = other
number_or other (Some v) = read_or other (reading (word_in v))

abbrev pub number_of : ℤ → FieldName → List Field → ℤ
number_of other n fields = number_or other (last_value n fields)

abbrev pub type_or : Option PType → PType
type_or None = ptype.Number
type_or (Some p) = p

abbrev pub type_in : Option Value → PType
type_in None = ptype.Number
type_in (Some v) = type_or (type_named (word_in v))

abbrev pub switch_or : Option Bool → Bool
switch_or None = false
switch_or (Some b) = b

abbrev pub switch_in : Option Value → Bool
switch_in None = false
switch_in (Some v) = switch_or (switch_named (word_in v))

-- ---- positions, rotations and scales

-- one, in billionths
abbrev pub one : ℤ
one = pos 1000000000

-- three numbers, each of which is another one where it is absent
abbrev pub vector_of : ℤ → List Field → V3
vector_of other fields =
    record { x = number_of other name.X fields; y = number_of other name.Y fields; z = number_of other name.Z fields }

-- three numbers that are 0 where they are absent, and a fourth that is 1
abbrev pub quaternion_of : List Field → V4
quaternion_of fields = record {
  x = number_of (pos 0) name.X fields;
  y = number_of (pos 0) name.Y fields;
  z = number_of (pos 0) name.Z fields;
  w = number_of one name.W fields;
}

abbrev pub position_of : List Field → Option V3
position_of fields = option_map (λ v. vector_of (pos 0) (fields_in v)) (last_value name.Position fields)

abbrev pub rotation_of : List Field → Option V4
rotation_of fields = option_map (λ v. quaternion_of (fields_in v)) (last_value name.Rotation fields)

-- the same scale along each axis
abbrev pub evenly : ℤ → V3
evenly s = record { x = s; y = s; z = s }

abbrev pub scale_of : Option Value → Option Value → Option V3
scale_of (Some v) even = Some (vector_of one (fields_in v))
scale_of None None = None
scale_of None (Some v) = Some (evenly (number_or one (Some v)))

-- three scales, wherever they stand, come before one
abbrev pub scale3_of : List Field → Option V3
scale3_of fields = scale_of (last_value name.Scale3 fields) (last_value name.Scale fields)
