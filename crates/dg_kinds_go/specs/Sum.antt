-- The sum of numbers.
use Rattle.std.specs.Prelude.{List}
use Rattle.dg_base.specs.declared.schema.ArgVal.{ArgVal}
use Rattle.dg_base.specs.declared.schema.Made.{Made}
use Rattle.dg_base.specs.First.{number_made, sum_of_args}

-- the exact sum of all arguments, or the fault Range where it doesn't fit into 64 bits; an input
-- without a source counts as 0
abbrev pub sum_total : List ArgVal → Made
sum_total args = number_made (sum_of_args args)
