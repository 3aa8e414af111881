-- The lines of build files. Ids, paths, names and values are quoted as printed texts are, and numbers are
-- decimals.
use Rattle.std.specs.Prelude.{ℕ, List, ◌++◌, Bool, cond, codes, ℤ}
use Rattle.dg_base.specs.declared.datum.PropVal.{PropVal}
use Rattle.dg_base.specs.declared.datum.V3.{V3}
use Rattle.dg_base.specs.declared.datum.V4.{V4}
use Rattle.dg_geom.specs.declared.transform.Transform.{Transform}
use Rattle.dg_text.specs.Quoted.{quoted}
use Rattle.dg_report.specs.Parts.{label_text, number_text, type_word}

-- a decimal behind a blank
abbrev pub next_number : ℤ → List ℕ
next_number number = codes " " ++ number_text number

abbrev pub vec3_numbers : V3 → List ℕ
vec3_numbers v = next_number v.x ++ next_number v.y ++ next_number v.z

abbrev pub quat_numbers : V4 → List ℕ
quat_numbers v = next_number v.x ++ next_number v.y ++ next_number v.z ++ next_number v.w

-- how a line begins: its word, an id and a path
abbrev pub line_begin : List ℕ → List ℕ → List ℕ → List ℕ
line_begin word id path = word ++ codes " " ++ quoted id ++ codes " " ++ quoted path

-- a component: its id, the path of what it is made of, and where it stands in its object
abbrev pub component_line : List ℕ → List ℕ → Transform → List ℕ
component_line id path place =
    line_begin (codes "component") id path ++ vec3_numbers place.position ++ quat_numbers place.rotation ++ codes "\n"

-- an open property: its name, its type word and its text
abbrev pub property_line : List (List ℕ) → PropVal → List ℕ
property_line names p =
    codes "property " ++ quoted (label_text names p.name) ++ codes " " ++ type_word p.ptype ++ codes " " ++ quoted p.text
    ++ codes "\n"

-- a collection: its name, and whether it scales along z
abbrev pub collection_line : List ℕ → Bool → List ℕ
collection_line name along_z = codes "collection " ++ quoted name ++ cond along_z (codes " 1\n") (codes " 0\n")

-- an object of a collection: its id, the path of its text, and where it stands
abbrev pub object_line : List ℕ → List ℕ → Transform → List ℕ
object_line id path place =
    line_begin (codes "object") id path ++ vec3_numbers place.position ++ quat_numbers place.rotation
    ++ vec3_numbers place.scale ++ codes "\n"

abbrev pub child_line : List ℕ → List ℕ
child_line id = codes "child " ++ quoted id ++ codes "\n"
