-- Small arguments of which the checker computes what the outputs give.
use Rattle.std.specs.Prelude.{ℕ, codes}
use Rattle.dg_base.specs.declared.datum.Datum.{Datum}
use Rattle.dg_base.specs.declared.datum.PropVal.{PropVal}
use Rattle.dg_base.specs.declared.datum.PType.TheVariants as ptype
use Rattle.dg_base.specs.declared.schema.ArgVal.{ArgVal}
use Rattle.dg_base.specs.declared.schema.ArgVal.TheVariants as arg_val
use Rattle.dg_base.specs.Value.{good}

abbrev pub one : Datum → ArgVal
one d = arg_val.One (good d)

-- an open value of this name, a number or a hash
abbrev pub number : ℕ → PropVal
number n = record { name = record { 0 = n }; ptype = ptype.Number; text = codes "1" }

abbrev pub other_number : ℕ → PropVal
other_number n = record { name = record { 0 = n }; ptype = ptype.Number; text = codes "2" }

abbrev pub hash : ℕ → PropVal
hash n = record { name = record { 0 = n }; ptype = ptype.Hash; text = codes "3" }
