-- A component is a record of its id, what it is made of, and where it stands.
use Rattle.std.specs.Prelude.{ℕ, List, [], ◌∷◌, Bool, cond, ◌==◌, ◌&&◌, ◌||◌, nat_le, Option, Some, None, filter_map, find, map}
use Rattle.std.specs.List.{list_all}
use Rattle.dg_base.specs.declared.datum.Datum.{Datum}
use Rattle.dg_base.specs.declared.datum.Datum.TheVariants as datum
use Rattle.dg_base.specs.declared.datum.PropVal.{PropVal}
use Rattle.dg_base.specs.declared.datum.PType.{PType}
use Rattle.dg_base.specs.declared.datum.PType.TheVariants as ptype
use Rattle.dg_base.specs.declared.answer.FaultCode.TheVariants as code
use Rattle.dg_base.specs.declared.schema.ArgVal.{ArgVal}
use Rattle.dg_base.specs.declared.schema.Made.{Made}
use Rattle.dg_base.specs.declared.schema.Made.TheVariants as made
use Rattle.dg_base.specs.Same.{same_label}
use Rattle.dg_base.specs.Rule.{prop_of}
use Rattle.dg_base.specs.Value.{made_good}
use Rattle.dg_labels.specs.declared.labels.TheConstants.{ID, TYPE, DATA, PATH, POSITION, ROTATION, PROPS}
use Rattle.dg_kinds_go.specs.Values.{value_at, props_at, or_nil, field, field_in, items_in, text_in}

abbrev pub number_of_ptype : PType → ℕ
number_of_ptype ptype.Number = 1
number_of_ptype ptype.Hash = 2
number_of_ptype ptype.Url = 3
number_of_ptype ptype.Vector3 = 4
number_of_ptype ptype.Vector4 = 5
number_of_ptype ptype.Quat = 6
number_of_ptype ptype.Boolean = 7

abbrev pub same_ptype : PType → PType → Bool
same_ptype a b = number_of_ptype a == number_of_ptype b

-- the own open value of this name
abbrev pub own_named : List PropVal → PropVal → Option PropVal
own_named own p = find (λ o. same_label o.name p.name) own

-- what stands in a declared property's place: its own value, or the property itself where there is
-- none; nothing where the own value is of another type
abbrev pub placed : PropVal → Option PropVal → Option PropVal
placed p None = Some p
placed p (Some o) = cond (same_ptype o.ptype p.ptype) (Some o) None

abbrev pub ahead : Option PropVal → Option (List PropVal) → Option (List PropVal)
ahead (Some p) (Some ps) = Some (p ∷ ps)
ahead _ _ = None

-- the declared properties in their order, each replaced by the own open value of its name; none
-- where one of these is of another type. Own values that aren't declared are passed over
abbrev pub replaced : List PropVal → List PropVal → Option (List PropVal)
replaced own [] = Some []
replaced own (p ∷ ps) = ahead (placed p (own_named own p)) (replaced own ps)

-- the properties that a resource declares
abbrev pub declared_in : Option Datum → List PropVal
declared_in resource = filter_map prop_of (items_in (field_in resource PROPS))

-- the arguments are the id, the position, the rotation, the resource and the open values
abbrev pub ref_record : List ArgVal → Datum → List Datum → Datum
ref_record args resource ps = datum.Rec (
    field ID (or_nil (value_at args 0))
    ∷ field PATH (or_nil (field_in (Some resource) PATH))
    ∷ field POSITION (or_nil (value_at args 1))
    ∷ field ROTATION (or_nil (value_at args 2))
    ∷ field PROPS (datum.List ps)
    ∷ []
    )

abbrev pub ref_or_fault : List ArgVal → Datum → Option (List PropVal) → Made
ref_or_fault args resource None = made.Fault code.PropType
ref_or_fault args resource (Some ps) = made_good (ref_record args resource (map datum.Prop ps))

abbrev pub ref_with : List ArgVal → Option Datum → Made
ref_with args None = made.Fault code.NoResource
ref_with args (Some resource) = ref_or_fault args resource (replaced (props_at args 4) (declared_in (Some resource)))

abbrev pub ref_component : List ArgVal → Made
ref_component args = ref_with args (value_at args 3)

-- the type of an embedded component has the characters a to z, 0 to 9 and _ alone
abbrev pub is_type_byte : ℕ → Bool
is_type_byte b = ((nat_le 97 b && nat_le b 122) || (nat_le 48 b && nat_le b 57)) || (b == 95)

abbrev pub is_type_name : List ℕ → Bool
is_type_name text = list_all is_type_byte text

-- the arguments are the id, the type, the data, the position and the rotation
abbrev pub embedded_value : List ArgVal → Datum
embedded_value args = datum.Rec (
    field ID (or_nil (value_at args 0))
    ∷ field TYPE (or_nil (value_at args 1))
    ∷ field DATA (or_nil (value_at args 2))
    ∷ field POSITION (or_nil (value_at args 3))
    ∷ field ROTATION (or_nil (value_at args 4))
    ∷ []
    )

abbrev pub embedded_component : List ArgVal → Made
embedded_component args = cond (is_type_name (text_in (value_at args 1))) (made_good (embedded_value args)) (made.Fault code.BadName)
