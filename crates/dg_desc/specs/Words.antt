-- Words that stand for values.
use Rattle.std.specs.Prelude.{ℕ, List, Bool, true, false, not, cond, ◌&&◌, ◌||◌, ◌==◌, length, Option, Some, None, Result, Ok, Err, codes, bytes_eq}
use Rattle.std.specs.Char.{is_ascii_lowercase, is_ascii_digit}
use Rattle.std.specs.List.{list_all}
use Rattle.dg_base.specs.declared.datum.PType.{PType}
use Rattle.dg_base.specs.declared.datum.PType.TheVariants as ptype
use Rattle.dg_decimal.specs.Reading.{reading}

abbrev pub is_read : {A E : Type 0} → Result A E → Bool
is_read (Ok a) = true
is_read (Err e) = false

-- a decimal that is in range
abbrev pub is_decimal : List ℕ → Bool
is_decimal word = is_read (reading word)

-- the types of properties
abbrev pub type_word : PType → List ℕ
type_word ptype.Number = codes "PROPERTY_TYPE_NUMBER"
type_word ptype.Hash = codes "PROPERTY_TYPE_HASH"
type_word ptype.Url = codes "PROPERTY_TYPE_URL"
type_word ptype.Vector3 = codes "PROPERTY_TYPE_VECTOR3"
type_word ptype.Vector4 = codes "PROPERTY_TYPE_VECTOR4"
type_word ptype.Quat = codes "PROPERTY_TYPE_QUAT"
type_word ptype.Boolean = codes "PROPERTY_TYPE_BOOLEAN"

abbrev pub type_named : List ℕ → Option PType
type_named word =
    cond (bytes_eq word (codes "PROPERTY_TYPE_NUMBER")) (Some ptype.Number)
    (cond (bytes_eq word (codes "PROPERTY_TYPE_HASH")) (Some ptype.Hash)
    (cond (bytes_eq word (codes "PROPERTY_TYPE_URL")) (Some ptype.Url)
    (cond (bytes_eq word (codes "PROPERTY_TYPE_VECTOR3")) (Some ptype.Vector3)
    (cond (bytes_eq word (codes "PROPERTY_TYPE_VECTOR4")) (Some ptype.Vector4)
    (cond (bytes_eq word (codes "PROPERTY_TYPE_QUAT")) (Some ptype.Quat)
    (cond (bytes_eq word (codes "PROPERTY_TYPE_BOOLEAN")) (Some ptype.Boolean) None))))))

-- `0`, `1`, `true` and `false`
abbrev pub switch_named : List ℕ → Option Bool
switch_named word =
    cond (bytes_eq word (codes "0")) (Some false)
    (cond (bytes_eq word (codes "1")) (Some true)
    (cond (bytes_eq word (codes "false")) (Some false)
    (cond (bytes_eq word (codes "true")) (Some true) None)))

-- the type of an embedded component: one or more small letters, digits and `_`
abbrev pub is_kind_byte : ℕ → Bool
is_kind_byte b = is_ascii_lowercase b || is_ascii_digit b || b == 95

abbrev pub is_kind : List ℕ → Bool
is_kind text = not (length text == 0) && list_all is_kind_byte text
