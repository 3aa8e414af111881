-- Instances: a game object or a collection with an id and a place.
use Rattle.std.specs.Prelude.{ℕ, List, [], ◌∷◌, ◌++◌, Option, Some, None, map, codes}
use Rattle.dg_base.specs.declared.datum.Datum.{Datum}
use Rattle.dg_base.specs.declared.datum.Datum.TheVariants as datum
use Rattle.dg_base.specs.declared.answer.FaultCode.TheVariants as code
use Rattle.dg_base.specs.declared.schema.ArgVal.{ArgVal}
use Rattle.dg_base.specs.declared.schema.Made.{Made}
use Rattle.dg_base.specs.declared.schema.Made.TheVariants as made
use Rattle.dg_base.specs.Value.{made_good}
use Rattle.dg_labels.specs.declared.labels.TheConstants.{ID, POSITION, ROTATION, OBJECT, SCALE3, CHILDREN, ENTRIES}
use Rattle.dg_kinds_go.specs.Values.{value_at, values_at, or_nil, field, text_in, items_in}
use Rattle.dg_kinds_coll.specs.Places.{place_at}
use Rattle.dg_kinds_coll.specs.Entries.{moved_entries}

-- the arguments are the id, the position, the rotation, the scale, the game object and the children's ids
abbrev pub go_instance_value : List ArgVal → Datum → Datum
go_instance_value args object = datum.Rec (
    field ID (or_nil (value_at args 0))
    ∷ field POSITION (or_nil (value_at args 1))
    ∷ field ROTATION (or_nil (value_at args 2))
    ∷ field SCALE3 (or_nil (value_at args 3))
    ∷ field CHILDREN (datum.List (map or_nil (values_at args 5)))
    ∷ field OBJECT object
    ∷ []
    )

abbrev pub go_instance_with : List ArgVal → Option Datum → Made
go_instance_with args None = made.Fault code.NoResource
go_instance_with args (Some object) = made_good (go_instance_value args object)

abbrev pub go_instance : List ArgVal → Made
go_instance args = go_instance_with args (value_at args 4)

-- what stands before the ids inside of an instance
abbrev pub prefix_of : List ℕ → List ℕ
prefix_of id = codes "/" ++ id

-- the arguments are the id, the position, the rotation, the scale and the collection's entries
abbrev pub sub_value : List ArgVal → List Datum → Datum
sub_value args entries = datum.Rec (field ID (or_nil (value_at args 0)) ∷ field ENTRIES (datum.List entries) ∷ [])

abbrev pub sub_or_fault : List ArgVal → Option (List Datum) → Made
sub_or_fault args None = made.Fault code.Range
sub_or_fault args (Some entries) = made_good (sub_value args entries)

abbrev pub coll_instance_with : List ArgVal → Option Datum → Made
coll_instance_with args None = made.Fault code.NoResource
coll_instance_with args (Some flat) =
    sub_or_fault args (moved_entries (prefix_of (text_in (value_at args 0))) (place_at args) (items_in (Some flat)))

abbrev pub coll_instance : List ArgVal → Made
coll_instance args = coll_instance_with args (value_at args 4)
