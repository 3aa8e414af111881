-- Small arguments of which the checker computes what the outputs give.
use Rattle.std.specs.Prelude.{ℕ, List, [], ◌∷◌, Bool, map, ℤ, pos}
use Rattle.dg_base.specs.declared.datum.Datum.{Datum}
use Rattle.dg_base.specs.declared.datum.Datum.TheVariants as datum
use Rattle.dg_base.specs.declared.schema.ArgVal.{ArgVal}
use Rattle.dg_base.specs.declared.schema.ArgVal.TheVariants as arg_val
use Rattle.dg_base.specs.Value.{good}
use Rattle.dg_geom.specs.declared.transform.Transform.{Transform}
use Rattle.dg_labels.specs.declared.labels.TheConstants.{ID, POSITION, CHILDREN, OBJECT, CHILD}
use Rattle.dg_kinds_go.specs.Values.{field}
use Rattle.dg_kinds_coll.specs.Places.{equal3, unturned}
use Rattle.dg_kinds_coll.specs.Entries.{behind}

abbrev pub one : Datum → ArgVal
one d = arg_val.One (good d)

abbrev pub text : List ℕ → ArgVal
text t = one (datum.Text t)

-- a place so far along each axis
abbrev pub place : ℤ → Transform
place n = record { position = equal3 n; rotation = unturned; scale = equal3 (pos 1000000000) }

-- what is at a place; its object is a text, to be short
abbrev pub at : ℤ → Bool → List ℕ → List (List ℕ) → Datum
at n child id children = datum.Rec (
    field ID (datum.Text id)
    ∷ field CHILD (datum.Flag child)
    ∷ field CHILDREN (datum.List (map (behind []) children))
    ∷ field POSITION (datum.Vec3 (equal3 n))
    ∷ field OBJECT (datum.Text id)
    ∷ []
    )

-- the arguments of a collection's instance that stands at a place
abbrev pub sub_args : List ℕ → ℤ → List Datum → List ArgVal
sub_args id n entries =
    text id ∷ one (datum.Vec3 (equal3 n)) ∷ one (datum.Quat unturned) ∷ one (datum.Vec3 (equal3 (pos 1000000000)))
    ∷ one (datum.List entries) ∷ []
