-- Where the values say that something stands. A value of another shape reads as nothing moved, turned or
-- scaled: the values of a sound graph never have another shape.
use Rattle.std.specs.Prelude.{List, Option, Some, ℤ, pos}
use Rattle.dg_base.specs.declared.datum.V3.{V3}
use Rattle.dg_base.specs.declared.datum.V4.{V4}
use Rattle.dg_base.specs.declared.datum.Datum.{Datum}
use Rattle.dg_base.specs.declared.datum.Datum.TheVariants as datum
use Rattle.dg_base.specs.declared.schema.ArgVal.{ArgVal}
use Rattle.dg_geom.specs.declared.transform.Transform.{Transform}
use Rattle.dg_labels.specs.declared.labels.TheConstants.{POSITION, ROTATION, SCALE3}
use Rattle.dg_kinds_go.specs.Values.{value_at, field_in}

-- the same number three times; numbers are in billionths
abbrev pub equal3 : ℤ → V3
equal3 n = record { x = n; y = n; z = n }

abbrev pub unturned : V4
unturned = record { x = pos 0; y = pos 0; z = pos 0; w = pos 1000000000 }

abbrev pub vec3_or : V3 → Option Datum → V3
vec3_or v (Some (datum.Vec3 w)) = w
vec3_or v _ = v

abbrev pub quat_in : Option Datum → V4
quat_in (Some (datum.Quat w)) = w
quat_in _ = unturned

-- a position, a rotation and a scale
abbrev pub place_of : Option Datum → Option Datum → Option Datum → Transform
place_of position rotation scale = record {
  position = vec3_or (equal3 (pos 0)) position;
  rotation = quat_in rotation;
  scale = vec3_or (equal3 (pos 1000000000)) scale;
}

-- the place that a record says in its fields, and the one that the arguments behind the id say
abbrev pub place_in : Option Datum → Transform
place_in d = place_of (field_in d POSITION) (field_in d ROTATION) (field_in d SCALE3)

abbrev pub place_at : List ArgVal → Transform
place_at args = place_of (value_at args 1) (value_at args 2) (value_at args 3)
