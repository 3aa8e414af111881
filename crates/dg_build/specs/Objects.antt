-- The text of an object: a line for each component, and behind it one for each of its open properties.
use Rattle.std.specs.Prelude.{ℕ, List, ◌++◌, Option, Some, None, codes, flat_map, filter_map}
use Rattle.dg_base.specs.declared.datum.Datum.{Datum}
use Rattle.dg_base.specs.Rule.{prop_of}
use Rattle.dg_labels.specs.declared.labels.TheConstants.{PATH, PROPS}
use Rattle.dg_kinds_go.specs.Values.{text_in, items_in, field_in}
use Rattle.dg_kinds_go.specs.Objects.{id_in}
use Rattle.dg_kinds_coll.specs.Places.{place_in}
use Rattle.dg_build.specs.Firsts.{place_of}
use Rattle.dg_build.specs.Paths.{component_path, resource_path}
use Rattle.dg_build.specs.Contents.{Content, same_content, content_in, components_in}
use Rattle.dg_build.specs.Lines.{component_line, property_line}

-- The path of an embedded component's content, which its place among the different contents numbers, or of what a
-- resource is built as.
abbrev pub path_by : List ℕ → List Content → Datum → Option Content → List ℕ
path_by stem contents component None = resource_path (text_in (field_in (Some component) PATH))
path_by stem contents component (Some c) = component_path stem (place_of same_content contents c) c.kind

abbrev pub built_path : List ℕ → List Content → Datum → List ℕ
built_path stem contents component = path_by stem contents component (content_in component)

abbrev pub property_lines : List (List ℕ) → Option Datum → List ℕ
property_lines names component = flat_map (property_line names) (filter_map prop_of (items_in (field_in component PROPS)))

abbrev pub component_lines : List ℕ → List Content → List (List ℕ) → Datum → List ℕ
component_lines stem contents names component =
    component_line (id_in (Some component)) (built_path stem contents component) (place_in (Some component))
    ++ property_lines names (Some component)

abbrev pub object_text : List ℕ → List Content → List (List ℕ) → Option Datum → List ℕ
object_text stem contents names object =
    codes "object\n" ++ flat_map (component_lines stem contents names) (components_in object)
