-- What is built: the objects of a value, and the contents of the embedded components in them. The path that a
-- value says tells whether it is that of a collection. A value of another shape reads as one with empty texts and
-- without members: what an output `build` gives never has another shape.
use Rattle.std.specs.Prelude.{ℕ, List, Bool, ◌&&◌, cond, bytes_eq, Option, Some, flat_map, filter_map}
use Rattle.std.specs.Option.{option_map}
use Rattle.dg_base.specs.declared.datum.Datum.{Datum}
use Rattle.dg_labels.specs.declared.labels.TheConstants.{PATH, TYPE, DATA, COMPONENTS, OBJECT, ENTRIES}
use Rattle.dg_kinds_go.specs.Values.{text_in, items_in, field_in}
use Rattle.dg_build.specs.declared.contents.Embedded.{Embedded}
use Rattle.dg_build.specs.Paths.{is_of_collection}

abbrev pub path_in : Datum → List ℕ
path_in built = text_in (field_in (Some built) PATH)

-- the entries of a collection
abbrev pub entries_in : Datum → List Datum
entries_in built = items_in (field_in (Some built) ENTRIES)

abbrev pub object_in : Datum → Option Datum
object_in entry = field_in (Some entry) OBJECT

abbrev pub components_in : Option Datum → List Datum
components_in object = items_in (field_in object COMPONENTS)

-- the content of an embedded component: its type and its data
pub record Content : Type 0 where
  pub kind : List ℕ
  pub body : List ℕ

abbrev pub same_content : Content → Content → Bool
same_content a b = bytes_eq a.kind b.kind && bytes_eq a.body b.body

abbrev pub content_with : Datum → Datum → Content
content_with component body = record { kind = text_in (field_in (Some component) TYPE); body = text_in (Some body) }

-- an embedded component has data, and one of a resource has none
abbrev pub content_in : Datum → Option Content
content_in component = option_map (content_with component) (field_in (Some component) DATA)

abbrev pub contents_of : Option Datum → List Content
contents_of object = filter_map content_in (components_in object)

-- all contents in order, equal ones too: those in the objects of a collection's entries, or in the one object
abbrev pub contents_in : Datum → List Content
contents_in built =
    cond (is_of_collection (path_in built)) (flat_map (λ e. contents_of (object_in e)) (entries_in built)) (contents_of (Some built))

-- what the code holds of a content
abbrev pub content_of : Embedded → Content
content_of e = record { kind = e.kind.now; body = e.body.now }

abbrev pub same_embedded : Embedded → Embedded → Bool
same_embedded a b = same_content (content_of a) (content_of b)
