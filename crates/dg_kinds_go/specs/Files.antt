-- A resource: a record of its path and of the properties that it declares.
use Rattle.std.specs.Prelude.{List, [], ◌∷◌, map}
use Rattle.dg_base.specs.declared.datum.Datum.{Datum}
use Rattle.dg_base.specs.declared.datum.Datum.TheVariants as datum
use Rattle.dg_base.specs.declared.datum.PropVal.{PropVal}
use Rattle.dg_base.specs.declared.schema.ArgVal.{ArgVal}
use Rattle.dg_base.specs.declared.schema.Made.{Made}
use Rattle.dg_base.specs.Value.{made_good}
use Rattle.dg_labels.specs.declared.labels.TheConstants.{PATH, PROPS}
use Rattle.dg_kinds_go.specs.Values.{value_at, props_at, or_nil, field}

abbrev pub props_value : List PropVal → Datum
props_value ps = datum.List (map datum.Prop ps)

abbrev pub resource_value : Datum → List PropVal → Datum
resource_value file ps = datum.Rec (field PATH file ∷ field PROPS (props_value ps) ∷ [])

-- the argument is the path
abbrev pub file_resource : List ArgVal → Made
file_resource args = made_good (resource_value (or_nil (value_at args 0)) [])

-- the arguments are the path and the open values
abbrev pub script_resource : List ArgVal → Made
script_resource args = made_good (resource_value (or_nil (value_at args 0)) (props_at args 1))
