-- An entry is an object of a collection, as a record: its id from the collection down, with a slash before
-- each part, whether it is a child of another entry, its own children's ids, where it stands and what it
-- is. A child stands where its parent says, so its place is its own in each collection around it.
use Rattle.std.specs.Prelude.{ℕ, List, [], ◌∷◌, ◌++◌, Bool, false, cond, Option, Some, None, map}
use Rattle.std.specs.Option.{option_map}
use Rattle.dg_base.specs.declared.datum.Datum.{Datum}
use Rattle.dg_base.specs.declared.datum.Datum.TheVariants as datum
use Rattle.dg_geom.specs.declared.transform.Transform.{Transform}
use Rattle.dg_geom.specs.Composition.{composition}
use Rattle.dg_labels.specs.declared.labels.TheConstants.{ID, POSITION, ROTATION, OBJECT, SCALE3, CHILDREN, CHILD}
use Rattle.dg_kinds_go.specs.Values.{text_in, items_in, field_in, or_nil, field}
use Rattle.dg_kinds_go.specs.Objects.{id_in}
use Rattle.dg_kinds_coll.specs.Places.{place_in}

-- the ids that a record names as its children
abbrev pub children_in : Option Datum → List (List ℕ)
children_in d = map (λ c. text_in (Some c)) (items_in (field_in d CHILDREN))

-- whether a record says that it is a child
abbrev pub flag_in : Option Datum → Bool
flag_in (Some (datum.Flag b)) = b
flag_in _ = false

abbrev pub is_child : Option Datum → Bool
is_child d = flag_in (field_in d CHILD)

-- a text behind a prefix
abbrev pub behind : List ℕ → List ℕ → Datum
behind prefix text = datum.Text (prefix ++ text)

-- the entry of a record that has an id, children and an object, with the prefix before its ids
abbrev pub entry_of : List ℕ → Bool → Transform → Option Datum → Datum
entry_of prefix child place from = datum.Rec (
    field ID (behind prefix (id_in from))
    ∷ field CHILD (datum.Flag child)
    ∷ field CHILDREN (datum.List (map (behind prefix) (children_in from)))
    ∷ field POSITION (datum.Vec3 place.position)
    ∷ field ROTATION (datum.Quat place.rotation)
    ∷ field SCALE3 (datum.Vec3 place.scale)
    ∷ field OBJECT (or_nil (field_in from OBJECT))
    ∷ []
    )

-- where the entry stands in a collection whose place is outer: one that isn't a child moves along
abbrev pub moved_place : Transform → Option Datum → Option Transform
moved_place outer from = cond (is_child from) (Some (place_in from)) (composition outer (place_in from))

abbrev pub moved_entry : List ℕ → Transform → Option Datum → Option Datum
moved_entry prefix outer from = option_map (λ place. entry_of prefix (is_child from) place from) (moved_place outer from)

abbrev pub ahead : Option Datum → Option (List Datum) → Option (List Datum)
ahead (Some d) (Some ds) = Some (d ∷ ds)
ahead _ _ = None

-- all entries, or none where the numbers of one are out of range
abbrev pub moved_entries : List ℕ → Transform → List Datum → Option (List Datum)
moved_entries prefix outer [] = Some []
moved_entries prefix outer (from ∷ others) = ahead (moved_entry prefix outer (Some from)) (moved_entries prefix outer others)
