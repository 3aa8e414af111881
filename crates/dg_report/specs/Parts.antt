-- The parts of a printed answer: labels, endpoints, codes, type words, vectors.
use Rattle.std.specs.Prelude.{ℕ, List, [], ◌∷◌, ◌++◌, cond, codes, Option, Some, None, ℤ}
use Rattle.std.specs.List.{flat_map}
use Rattle.std.specs.Fmt.{decimal}
use Rattle.dg_base.specs.declared.ids.Label.{Label}
use Rattle.dg_base.specs.declared.ids.Endpoint.{Endpoint}
use Rattle.dg_base.specs.declared.datum.PType.{PType}
use Rattle.dg_base.specs.declared.datum.PType.TheVariants as ptype
use Rattle.dg_base.specs.declared.answer.FaultCode.{FaultCode}
use Rattle.dg_base.specs.declared.answer.FaultCode.TheVariants as code
use Rattle.dg_base.specs.Rule.{is_open_label}
use Rattle.dg_base.specs.Names.{text_at}
use Rattle.dg_labels.specs.Labels.{name_of_label}
use Rattle.dg_decimal.specs.Canonical.{canonical}

-- the name of a label: an open one's is the interned text, another's the schema's
unfoldable pub name_of : List (List ℕ) → Label → Option (List ℕ)
name_of names label = cond (is_open_label label) (text_at names label) (name_of_label label)

abbrev pub or_number : ℕ → Option (List ℕ) → List ℕ
or_number number None = decimal number
or_number number (Some name) = name

-- a label without a name is its number
abbrev pub label_text : List (List ℕ) → Label → List ℕ
label_text names label = or_number label.0 (name_of names label)

-- `.` stands before a label of the schema, `:` before an open one
abbrev pub mark_of : Label → ℕ
mark_of label = cond (is_open_label label) 58 46

abbrev pub endpoint_text : List (List ℕ) → Endpoint → List ℕ
endpoint_text names at = decimal at.node.0 ++ mark_of at.label ∷ label_text names at.label

abbrev pub code_text : FaultCode → List ℕ
code_text code.NoEndpoint = codes "NoEndpoint"
code_text code.Defective = codes "Defective"
code_text code.Range = codes "Range"
code_text code.NoResource = codes "NoResource"
code_text code.DuplicateId = codes "DuplicateId"
code_text code.PropType = codes "PropType"
code_text code.BadName = codes "BadName"
code_text code.TooLong = codes "TooLong"

abbrev pub type_word : PType → List ℕ
type_word ptype.Number = codes "number"
type_word ptype.Hash = codes "hash"
type_word ptype.Url = codes "url"
type_word ptype.Vector3 = codes "vector3"
type_word ptype.Vector4 = codes "vector4"
type_word ptype.Quat = codes "quat"
type_word ptype.Boolean = codes "boolean"

-- texts joined by a comma and a blank
abbrev pub behind_first : {X : Type 0} → (X → List ℕ) → List X → List ℕ
behind_first text xs = flat_map (λ x. codes ", " ++ text x) xs

abbrev pub joined : {X : Type 0} → (X → List ℕ) → List X → List ℕ
joined text [] = []
joined text (x ∷ xs) = text x ++ behind_first text xs

-- a decimal
unfoldable pub number_text : ℤ → List ℕ
number_text number = canonical number

-- a comma, a blank and a decimal
abbrev pub next_text : ℤ → List ℕ
next_text number = codes ", " ++ number_text number

abbrev pub vec3_text : ℤ → ℤ → ℤ → List ℕ
vec3_text x y z = codes "[" ++ number_text x ++ next_text y ++ next_text z ++ codes "]"

abbrev pub quat_text : ℤ → ℤ → ℤ → ℤ → List ℕ
quat_text x y z w = codes "[" ++ number_text x ++ next_text y ++ next_text z ++ next_text w ++ codes "]"
