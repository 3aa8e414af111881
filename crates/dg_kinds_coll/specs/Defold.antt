-- The whole schema: its tables, and its laws.
use Rattle.std.specs.Prelude.{List, cond, refl}
use Rattle.dg_base.specs.declared.ids.Kind.{Kind}
use Rattle.dg_base.specs.declared.ids.Label.{Label}
use Rattle.dg_base.specs.declared.schema.ArgVal.{ArgVal}
use Rattle.dg_base.specs.declared.schema.Made.{Made}
use Rattle.dg_base.specs.Tables.{Tables, AreTables}
use Rattle.dg_rows.specs.Rows.{tables_of}
use Rattle.dg_rows.proofs.Laws.{rows_laws}
use Rattle.dg_labels.specs.declared.kinds.TheConstants as kinds
use Rattle.dg_labels.specs.declared.labels.TheConstants as labels
use Rattle.dg_kinds_go.specs.Go.{is_output_of, go_made}
use Rattle.dg_kinds_coll.specs.Kinds.{defold_kinds}
use Rattle.dg_kinds_coll.specs.Instances.{go_instance, coll_instance}
use Rattle.dg_kinds_coll.specs.Collections.{coll_flat, coll_build}

abbrev pub defold_made : Kind → Label → List ArgVal → Made
defold_made k l args =
    cond (is_output_of k l kinds.GO_INSTANCE labels.INSTANCE) (go_instance args)
    (cond (is_output_of k l kinds.COLL_INSTANCE labels.INSTANCE) (coll_instance args)
    (cond (is_output_of k l kinds.COLLECTION labels.FLAT) (coll_flat args)
    (cond (is_output_of k l kinds.COLLECTION labels.BUILD) (coll_build args)
    (go_made k l args))))

abbrev pub defold_tables : Tables
defold_tables = tables_of defold_kinds defold_made

pub defold_laws : AreTables defold_tables
defold_laws = rows_laws defold_kinds defold_made refl
