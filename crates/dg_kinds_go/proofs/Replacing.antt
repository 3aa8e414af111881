-- What was replaced so far, and what the rest gives.
use Rattle.std.specs.Prelude.{List, ◌++◌, Option, Some, None, map}
use Rattle.dg_base.specs.declared.datum.Datum.{Datum}
use Rattle.dg_base.specs.declared.datum.Datum.TheVariants as datum
use Rattle.dg_base.specs.declared.datum.PropVal.{PropVal}

abbrev pub behind : List Datum → Option (List PropVal) → Option (List Datum)
behind all None = None
behind all (Some ps) = Some (all ++ map datum.Prop ps)
