-- The schema of the nine kinds: its tables, and its laws.
use Rattle.std.specs.Prelude.{List, Bool, cond, ◌&&◌, ◌==◌, refl}
use Rattle.dg_base.specs.declared.ids.Kind.{Kind}
use Rattle.dg_base.specs.declared.ids.Label.{Label}
use Rattle.dg_base.specs.declared.datum.Datum.TheVariants as datum
use Rattle.dg_base.specs.declared.schema.ArgVal.{ArgVal}
use Rattle.dg_base.specs.declared.schema.Made.{Made}
use Rattle.dg_base.specs.Tables.{Tables, AreTables}
use Rattle.dg_base.specs.Value.{made_good}
use Rattle.dg_rows.specs.Rows.{tables_of}
use Rattle.dg_rows.proofs.Laws.{rows_laws}
use Rattle.dg_labels.specs.declared.kinds.TheConstants as kinds
use Rattle.dg_labels.specs.declared.labels.TheConstants as labels
use Rattle.dg_kinds_go.specs.Kinds.{go_kinds}
use Rattle.dg_kinds_go.specs.Sum.{sum_total}
use Rattle.dg_kinds_go.specs.Join.{join_joined}
use Rattle.dg_kinds_go.specs.Files.{file_resource, script_resource}
use Rattle.dg_kinds_go.specs.Components.{ref_component, embedded_component}
use Rattle.dg_kinds_go.specs.Objects.{go_object, go_build}

abbrev pub is_output_of : Kind → Label → Kind → Label → Bool
is_output_of k l kind label = (k.0 == kind.0) && (l.0 == label.0)

-- an endpoint that is no output has no production: its place in the table is Nil
abbrev pub go_components_made : Kind → Label → List ArgVal → Made
go_components_made k l args =
    cond (is_output_of k l kinds.COMPONENT_REF labels.COMPONENT) (ref_component args)
    (cond (is_output_of k l kinds.COMPONENT_EMBEDDED labels.COMPONENT) (embedded_component args)
    (made_good datum.Nil))

abbrev pub go_objects_made : Kind → Label → List ArgVal → Made
go_objects_made k l args =
    cond (is_output_of k l kinds.GAME_OBJECT labels.OBJECT) (go_object args)
    (cond (is_output_of k l kinds.GAME_OBJECT labels.BUILD) (go_build args)
    (go_components_made k l args))

abbrev pub go_made : Kind → Label → List ArgVal → Made
go_made k l args =
    cond (is_output_of k l kinds.SUM labels.TOTAL) (sum_total args)
    (cond (is_output_of k l kinds.JOIN labels.JOINED) (join_joined args)
    (cond (is_output_of k l kinds.RESOURCE_FILE labels.RESOURCE) (file_resource args)
    (cond (is_output_of k l kinds.SCRIPT_FILE labels.RESOURCE) (script_resource args)
    (go_objects_made k l args))))

abbrev pub go_tables : Tables
go_tables = tables_of go_kinds go_made

pub go_laws : AreTables go_tables
go_laws = rows_laws go_kinds go_made refl
