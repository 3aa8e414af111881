-- What the definitions need to know of a schema, as tables: all that follows is generic over them.
use Rattle.std.specs.Prelude.{◌≡◌, ◌≢◌, ◌<◌, List, Bool, true, Contains, IsTrue, map}
use Rattle.dg_base.specs.declared.ids.Kind.{Kind}
use Rattle.dg_base.specs.declared.ids.Label.{Label}
use Rattle.dg_base.specs.declared.ids.TheConstants.{FIRST_OPEN}
use Rattle.dg_base.specs.declared.datum.Datum.{Datum}
use Rattle.dg_base.specs.declared.schema.Ty.{Ty}
use Rattle.dg_base.specs.declared.schema.Role.{Role}
use Rattle.dg_base.specs.declared.schema.Role.TheVariants as role
use Rattle.dg_base.specs.declared.schema.ArgSpec.{ArgSpec}
use Rattle.dg_base.specs.declared.schema.ArgSpec.TheVariants as arg
use Rattle.dg_base.specs.declared.schema.ArgVal.{ArgVal}
use Rattle.dg_base.specs.declared.schema.Made.{Made}
use Rattle.dg_base.specs.Order.{rises}
use Rattle.dg_base.specs.Role.{is_given, is_input, has_type}

pub record Tables : Type 0 where
  pub labels : Kind → List Label  -- the labels of a kind
  pub role : Kind → Label → Role  -- what a label is to a kind
  pub is_open : Kind → Bool  -- whether its nodes have open properties
  pub args : Kind → Label → List ArgSpec  -- the arguments of an output
  pub preset : Kind → Label → Datum  -- the default of a property
  pub substitute : Kind → Label → Datum  -- what stands in for a bad source of an input
  pub produce : Kind → Label → List ArgVal → Made

-- an argument names a property or output, or an input, of the kind
abbrev pub arg_fits : Tables → Kind → ArgSpec → Bool
arg_fits t k (arg.Own l) = is_given (t.role k l)
arg_fits t k (arg.Input i) = is_input (t.role k i)
arg_fits t k arg.Open = true

-- the laws that each schema keeps
pub record AreTables (t : Tables) : Type 0 where
  -- the labels of a kind are below the first open one and rise, so each stands once
  pub low : (k : Kind) (l : Label) → Contains (t.labels k) l → l.0 < FIRST_OPEN
  pub rise : (k : Kind) → IsTrue (rises (map (λ l. l.0) (t.labels k)))
  -- just these have a role
  pub known : (k : Kind) (l : Label) → Contains (t.labels k) l → t.role k l ≢ role.Nothing
  pub others : (k : Kind) (l : Label) → t.role k l ≢ role.Nothing → Contains (t.labels k) l
  -- a default is of its property's type, a substitute of its input's, and no array has a substitute
  pub preset_fits : (k : Kind) (l : Label) (ty : Ty) → t.role k l ≡ role.Property ty → IsTrue (has_type ty (t.preset k l))
  pub substitute_fits : (k : Kind) (l : Label) (ty : Ty) (array cascade : Bool) →
      t.role k l ≡ role.Input ty array cascade true → IsTrue (has_type ty (t.substitute k l))
  pub no_array_substitute : (k : Kind) (l : Label) (ty : Ty) (cascade : Bool) → t.role k l ≢ role.Input ty true cascade true
  -- arguments name what the kind has
  pub args_fit : (k : Kind) (l : Label) (a : ArgSpec) → Contains (t.args k l) a → IsTrue (arg_fits t k a)
