-- The text of a collection: a line for itself, and for each entry one that names the text of its object, and
-- behind it one for each child.
use Rattle.std.specs.Prelude.{ℕ, List, ◌++◌, Some, bytes_eq, flat_map}
use Rattle.dg_base.specs.declared.datum.Datum.{Datum}
use Rattle.dg_labels.specs.declared.labels.TheConstants.{NAME, SCALE_ALONG_Z}
use Rattle.dg_kinds_go.specs.Values.{text_in, field_in}
use Rattle.dg_kinds_go.specs.Objects.{id_in}
use Rattle.dg_kinds_coll.specs.Places.{place_in}
use Rattle.dg_kinds_coll.specs.Entries.{children_in, flag_in}
use Rattle.dg_build.specs.declared.entries.Entry.{Entry}
use Rattle.dg_build.specs.Firsts.{place_of}
use Rattle.dg_build.specs.Paths.{object_path}
use Rattle.dg_build.specs.Lines.{collection_line, object_line, child_line}

-- what the code holds of an entry
abbrev pub entry_of : Entry → Datum × List ℕ
entry_of e = (e.entry.now, e.text.items)

-- an entry and its object's text, which its place among the different texts numbers
abbrev pub entry_lines : List ℕ → List (List ℕ) → Datum × List ℕ → List ℕ
entry_lines stem texts entry =
    object_line (id_in (Some entry.0)) (object_path stem (place_of bytes_eq texts entry.1)) (place_in (Some entry.0))
    ++ flat_map child_line (children_in (Some entry.0))

abbrev pub collection_text : List ℕ → List (List ℕ) → Datum → List (Datum × List ℕ) → List ℕ
collection_text stem texts built entries =
    collection_line (text_in (field_in (Some built) NAME)) (flag_in (field_in (Some built) SCALE_ALONG_Z))
    ++ flat_map (entry_lines stem texts) entries
