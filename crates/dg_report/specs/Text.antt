-- The text of a value and of an answer.
use Rattle.std.specs.Prelude.{ℕ, List, [], ◌++◌, cond, codes}
use Rattle.dg_base.specs.declared.datum.Datum.{Datum, Row_of-Datum, end_of-Datum, more_of-Datum}
use Rattle.dg_base.specs.declared.datum.Datum.{Nil, Flag, Dec, Text, Vec3, Quat, Prop, List', Rec'}
use Rattle.dg_base.specs.declared.datum.Datum.{Row_of-FieldOf, end_of-FieldOf, more_of-FieldOf}
use Rattle.dg_base.specs.declared.datum.FieldOf.{FieldOf}
use Rattle.dg_base.specs.declared.datum.PropVal.{PropVal}
use Rattle.dg_base.specs.declared.answer.Answer.{Answer}
use Rattle.dg_base.specs.declared.answer.Answer.TheVariants as answer
use Rattle.dg_base.specs.declared.answer.Fault.{Fault}
use Rattle.dg_text.specs.Quoted.{quoted}
use Rattle.dg_report.specs.Parts.{label_text, endpoint_text, code_text, type_word, joined, number_text, vec3_text, quat_text}

-- an open property: its name, its type word and its quoted text
abbrev pub property_text : List (List ℕ) → PropVal → List ℕ
property_text names p = label_text names p.name ++ codes " " ++ type_word p.ptype ++ codes " " ++ quoted p.text

abbrev mutual
  pub value_text : List (List ℕ) → Datum → List ℕ
  value_text names Nil = codes "nil"
  value_text names (Flag b) = cond b (codes "true") (codes "false")
  value_text names (Dec z) = number_text z
  value_text names (Text t) = quoted t
  value_text names (Vec3 v) = vec3_text v.x v.y v.z
  value_text names (Quat q) = quat_text q.x q.y q.z q.w
  value_text names (Prop p) = property_text names p
  value_text names (List' shape all) = codes "(" ++ items_text names all ++ codes ")"
  value_text names (Rec' shape all) = codes "{" ++ fields_text names all ++ codes "}"

  -- the members of a list, joined by a comma and a blank
  pub items_text : {m : _} → List (List ℕ) → Row_of-Datum m → List ℕ
  items_text names end_of-Datum = []
  items_text names (more_of-Datum item rest) = value_text names item ++ more_items_text names rest

  pub more_items_text : {m : _} → List (List ℕ) → Row_of-Datum m → List ℕ
  more_items_text names end_of-Datum = []
  more_items_text names (more_of-Datum item rest) = (codes ", " ++ value_text names item) ++ more_items_text names rest

  -- the fields of a record likewise, each a label, a colon, a blank and a value
  pub fields_text : {m : _} → List (List ℕ) → Row_of-FieldOf m → List ℕ
  fields_text names end_of-FieldOf = []
  fields_text names (more_of-FieldOf label value rest) =
      (label_text names label ++ codes ": " ++ value_text names value) ++ more_fields_text names rest

  pub more_fields_text : {m : _} → List (List ℕ) → Row_of-FieldOf m → List ℕ
  more_fields_text names end_of-FieldOf = []
  more_fields_text names (more_of-FieldOf label value rest) =
      (codes ", " ++ label_text names label ++ codes ": " ++ value_text names value) ++ more_fields_text names rest

abbrev pub field_text : List (List ℕ) → FieldOf → List ℕ
field_text names f = label_text names f.label ++ codes ": " ++ value_text names f.value

-- the same over lists
abbrev pub list_text : List (List ℕ) → List Datum → List ℕ
list_text names items = codes "(" ++ joined (value_text names) items ++ codes ")"

abbrev pub record_text : List (List ℕ) → List FieldOf → List ℕ
record_text names fields = codes "{" ++ joined (field_text names) fields ++ codes "}"

abbrev pub fault_text : List (List ℕ) → Fault → List ℕ
fault_text names f = endpoint_text names f.at ++ codes " " ++ code_text f.code

abbrev pub answer_text : Answer → List (List ℕ) → List ℕ
answer_text (answer.Good d) names = value_text names d
answer_text (answer.Bad fs) names = codes "fault " ++ joined (fault_text names) fs
answer_text answer.Cycle names = codes "cycle"
