-- What is asked of a role, and of a value at a role.
use Rattle.std.specs.Prelude.{Bool, true, false, Option, Some, None}
use Rattle.dg_base.specs.declared.ids.Label.{Label}
use Rattle.dg_base.specs.declared.datum.Datum.{Datum}
use Rattle.dg_base.specs.declared.datum.Datum.TheVariants as datum
use Rattle.dg_base.specs.declared.schema.Ty.{Ty}
use Rattle.dg_base.specs.declared.schema.Ty.TheVariants as ty
use Rattle.dg_base.specs.declared.schema.Role.{Role}
use Rattle.dg_base.specs.declared.schema.Role.TheVariants as role
use Rattle.dg_base.specs.Same.{same_label}

-- a property or an output gives a value, and an input takes values
abbrev pub is_given : Role → Bool
is_given (role.Property t) = true
is_given (role.Output t cached) = true
is_given _ = false

abbrev pub is_output : Role → Bool
is_output (role.Output t cached) = true
is_output _ = false

-- only cached outputs are kept in the shared cache
abbrev pub is_cached : Role → Bool
is_cached (role.Output t cached) = cached
is_cached _ = false

abbrev pub is_input : Role → Bool
is_input (role.Input t array cascade substitute) = true
is_input _ = false

-- the type that a property or output gives, and the type that an input takes
abbrev pub given : Role → Option Ty
given (role.Property t) = Some t
given (role.Output t cached) = Some t
given _ = None

abbrev pub taken : Role → Option Ty
taken (role.Input t array cascade substitute) = Some t
taken _ = None

-- an array takes several sources; a cascading input owns the nodes of its sources
abbrev pub is_array : Role → Bool
is_array (role.Input t array cascade substitute) = array
is_array _ = false

abbrev pub cascades : Role → Bool
cascades (role.Input t array cascade substitute) = cascade
cascades _ = false

-- whether a value is of a type; the types from Resource on have no values that could be set
abbrev pub has_type : Ty → Datum → Bool
has_type ty.Number (datum.Dec n) = true
has_type ty.Text (datum.Text t) = true
has_type ty.Flag (datum.Flag b) = true
has_type ty.Vec3 (datum.Vec3 v) = true
has_type ty.Quat (datum.Quat q) = true
has_type _ _ = false

-- whether a value is an open property of this name
abbrev pub is_prop_named : Label → Datum → Bool
is_prop_named l (datum.Prop p) = same_label p.name l
is_prop_named l _ = false
