-- A collection is the flat list of all objects in it, those of the collections in it too.
use Rattle.std.specs.Prelude.{ℕ, List, [], ◌∷◌, ◌++◌, Bool, cond, ◌&&◌, Option, map, flat_map, bytes_eq, codes}
use Rattle.std.specs.List.{list_any}
use Rattle.std.specs.Borrow.{Bor}
use Rattle.std.specs.BTreeSet.{BTreeSet, contains_by}
use Rattle.std.specs.Cmp.Lexicographic.{slice_cmp}
use Rattle.std.specs.Ordering.{nat_cmp}
use Rattle.dg_text.specs.Paths.{is_project_path, ends_in}
use Rattle.dg_base.specs.declared.datum.Datum.{Datum}
use Rattle.dg_base.specs.declared.datum.Datum.TheVariants as datum
use Rattle.dg_base.specs.declared.answer.FaultCode.TheVariants as code
use Rattle.dg_base.specs.declared.schema.ArgVal.{ArgVal}
use Rattle.dg_base.specs.declared.schema.Made.{Made}
use Rattle.dg_base.specs.declared.schema.Made.TheVariants as made
use Rattle.dg_base.specs.Value.{made_good}
use Rattle.dg_labels.specs.declared.labels.TheConstants.{PATH, NAME, SCALE_ALONG_Z, ENTRIES}
use Rattle.dg_kinds_go.specs.Values.{value_at, values_at, or_nil, field, field_in, text_in, items_in}
use Rattle.dg_kinds_go.specs.Objects.{has_equals, id_in}
use Rattle.dg_kinds_coll.specs.Places.{place_in}
use Rattle.dg_kinds_coll.specs.Entries.{children_in, entry_of}

-- the ids that some of the instances names among its children
abbrev pub named_children : List (Option Datum) → List (List ℕ)
named_children instances = flat_map children_in instances

abbrev pub is_named : List (Option Datum) → List ℕ → Bool
is_named instances id = list_any (λ c. bytes_eq c id) (named_children instances)

-- a set of texts has a text
abbrev pub has_text : BTreeSet (Bor (List ℕ)) → List ℕ → Bool
has_text set text = contains_by (λ k. slice_cmp nat_cmp text k.now) set

-- the entry of an instance, where the test says which ids are those of children
abbrev pub instance_entry : (List ℕ → Bool) → Option Datum → Datum
instance_entry named instance = entry_of (codes "/") (named (id_in instance)) (place_in instance) instance

abbrev pub instance_entries : List (Option Datum) → List Datum
instance_entries instances = map (instance_entry (is_named instances)) instances

-- the entries of the collections in it, which have their ids and places already
abbrev pub sub_entries : List (Option Datum) → List Datum
sub_entries subs = flat_map (λ s. items_in (field_in s ENTRIES)) subs

-- the arguments are the instances and the collections in it
abbrev pub flat_ids : List ArgVal → List (List ℕ)
flat_ids args = map id_in (values_at args 0) ++ map id_in (values_at args 1)

abbrev pub flat_value : List ArgVal → Datum
flat_value args = datum.List (instance_entries (values_at args 0) ++ sub_entries (values_at args 1))

abbrev pub coll_flat : List ArgVal → Made
coll_flat args = cond (has_equals (flat_ids args)) (made.Fault code.DuplicateId) (made_good (flat_value args))

-- the path of a collection's file
abbrev pub is_collection_path : List ℕ → Bool
is_collection_path path = is_project_path path && ends_in path (codes ".collection")

-- the arguments are the path, the name, whether it scales along z, and the entries
abbrev pub coll_value : List ArgVal → Datum
coll_value args = datum.Rec (
    field PATH (or_nil (value_at args 0))
    ∷ field NAME (or_nil (value_at args 1))
    ∷ field SCALE_ALONG_Z (or_nil (value_at args 2))
    ∷ field ENTRIES (or_nil (value_at args 3))
    ∷ []
    )

abbrev pub coll_build : List ArgVal → Made
coll_build args = cond (is_collection_path (text_in (value_at args 0))) (made_good (coll_value args)) (made.Fault code.BadName)
