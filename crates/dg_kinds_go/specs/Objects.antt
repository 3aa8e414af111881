-- A game object is a record of its path and its components. Its build is the object itself, where
-- its path can be that of a file.
use Rattle.std.specs.Prelude.{ℕ, List, [], ◌∷◌, Bool, false, cond, ◌&&◌, ◌||◌, Option, map, bytes_eq, codes}
use Rattle.std.specs.List.{list_any}
use Rattle.dg_text.specs.Paths.{is_project_path, ends_in}
use Rattle.dg_base.specs.declared.datum.Datum.{Datum}
use Rattle.dg_base.specs.declared.datum.Datum.TheVariants as datum
use Rattle.dg_base.specs.declared.answer.FaultCode.TheVariants as code
use Rattle.dg_base.specs.declared.schema.ArgVal.{ArgVal}
use Rattle.dg_base.specs.declared.schema.Made.{Made}
use Rattle.dg_base.specs.declared.schema.Made.TheVariants as made
use Rattle.dg_base.specs.Value.{made_good}
use Rattle.dg_labels.specs.declared.labels.TheConstants.{ID, PATH, COMPONENTS}
use Rattle.dg_kinds_go.specs.Values.{value_at, values_at, or_nil, field, field_in, text_in}

-- two of the texts are equal
abbrev pub has_equals : List (List ℕ) → Bool
has_equals [] = false
has_equals (t ∷ ts) = list_any (bytes_eq t) ts || has_equals ts

abbrev pub id_in : Option Datum → List ℕ
id_in d = text_in (field_in d ID)

-- the arguments are the path and the components
abbrev pub object_value : List ArgVal → Datum
object_value args = datum.Rec (
    field PATH (or_nil (value_at args 0))
    ∷ field COMPONENTS (datum.List (map or_nil (values_at args 1)))
    ∷ []
    )

abbrev pub go_object : List ArgVal → Made
go_object args = cond (has_equals (map id_in (values_at args 1))) (made.Fault code.DuplicateId) (made_good (object_value args))

-- the path of a game object's file
abbrev pub is_go_path : List ℕ → Bool
is_go_path path = is_project_path path && ends_in path (codes ".go")

-- the argument is the object
abbrev pub go_build : List ArgVal → Made
go_build args =
    cond (is_go_path (text_in (field_in (value_at args 0) PATH))) (made_good (or_nil (value_at args 0))) (made.Fault code.BadName)
