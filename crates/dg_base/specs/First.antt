-- The tables of the first schema, a number and a sum, which the worked cases use.
use Rattle.std.specs.Prelude.{List, [], ◌∷◌, Bool, true, false, cond, ◌&&◌, ◌==◌, ℤ, pos, negsuc, ◌+ℤ◌, int_le}
use Rattle.dg_base.specs.declared.ids.Label.{Label}
use Rattle.dg_base.specs.declared.ids.Kind.{Kind}
use Rattle.dg_base.specs.declared.datum.Datum.{Datum}
use Rattle.dg_base.specs.declared.datum.Datum.TheVariants as datum
use Rattle.dg_base.specs.declared.answer.Answer.{Answer}
use Rattle.dg_base.specs.declared.answer.Answer.TheVariants as answer
use Rattle.dg_base.specs.declared.answer.FaultCode.TheVariants as code
use Rattle.dg_base.specs.declared.schema.Ty.TheVariants as ty
use Rattle.dg_base.specs.declared.schema.Role.{Role}
use Rattle.dg_base.specs.declared.schema.Role.TheVariants as role
use Rattle.dg_base.specs.declared.schema.ArgSpec.{ArgSpec}
use Rattle.dg_base.specs.declared.schema.ArgSpec.TheVariants as arg
use Rattle.dg_base.specs.declared.schema.ArgVal.{ArgVal}
use Rattle.dg_base.specs.declared.schema.ArgVal.TheVariants as arg_val
use Rattle.dg_base.specs.declared.schema.Made.{Made}
use Rattle.dg_base.specs.declared.schema.Made.TheVariants as made
use Rattle.dg_base.specs.Tables.{Tables}
use Rattle.dg_base.specs.Value.{made_good}

-- the kinds Num and Sum; the property value of a Num; the inputs terms and extra and the output
-- total of a Sum
abbrev pub num : Kind
num = record { 0 = 1 }

abbrev pub sum_ : Kind
sum_ = record { 0 = 2 }

abbrev pub value : Label
value = record { 0 = 1 }

abbrev pub terms : Label
terms = record { 0 = 2 }

abbrev pub extra : Label
extra = record { 0 = 3 }

abbrev pub total : Label
total = record { 0 = 4 }

abbrev pub first_labels : Kind → List Label
first_labels k = cond (k.0 == 1) (value ∷ []) (cond (k.0 == 2) (terms ∷ extra ∷ total ∷ []) [])

abbrev pub role_in_sum : Label → Role
role_in_sum l =
    cond (l.0 == 2) (role.Input ty.Number true false false)
    (cond (l.0 == 3) (role.Input ty.Number false false true)
    (cond (l.0 == 4) (role.Output ty.Number true) role.Nothing))

abbrev pub first_role : Kind → Label → Role
first_role k l =
    cond (k.0 == 1) (cond (l.0 == 1) (role.Property ty.Number) role.Nothing) (cond (k.0 == 2) (role_in_sum l) role.Nothing)

abbrev pub first_args : Kind → Label → List ArgSpec
first_args k l = cond ((k.0 == 2) && (l.0 == 4)) (arg.Input terms ∷ arg.Input extra ∷ []) []

-- the numbers in an argument; all else counts as 0
abbrev pub number_in : Datum → ℤ
number_in (datum.Dec z) = z
number_in _ = pos 0

abbrev pub number_answered : Answer → ℤ
number_answered (answer.Good d) = number_in d
number_answered _ = pos 0

abbrev pub sum_answered : List Answer → ℤ
sum_answered [] = pos 0
sum_answered (a ∷ as_) = number_answered a +ℤ sum_answered as_

abbrev pub number_of_arg : ArgVal → ℤ
number_of_arg (arg_val.Sub d) = number_in d
number_of_arg (arg_val.One a) = number_answered a
number_of_arg (arg_val.Many as_) = sum_answered as_
number_of_arg _ = pos 0

abbrev pub sum_of_args : List ArgVal → ℤ
sum_of_args [] = pos 0
sum_of_args (a ∷ as_) = number_of_arg a +ℤ sum_of_args as_

-- a number, or the fault Range where it doesn't fit into 64 bits
abbrev pub is_in_range : ℤ → Bool
is_in_range z = int_le (negsuc 9223372036854775807) z && int_le z (pos 9223372036854775807)

abbrev pub number_made : ℤ → Made
number_made z = cond (is_in_range z) (made_good (datum.Dec z)) (made.Fault code.Range)

abbrev pub first_tables : Tables
first_tables = record {
  labels = first_labels;
  role = first_role;
  is_open = λ k. false;
  args = first_args;
  preset = λ k l. datum.Dec (pos 0);
  substitute = λ k l. datum.Dec (pos 0);
  produce = λ k l args. number_made (sum_of_args args);
}

-- the same schema, but a sum owns its terms
abbrev pub owning_role : Kind → Label → Role
owning_role k l = cond ((k.0 == 2) && (l.0 == 2)) (role.Input ty.Number true true false) (first_role k l)

abbrev pub owning_tables : Tables
owning_tables = record first_tables { role = owning_role }
