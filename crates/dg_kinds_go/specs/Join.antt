-- The parts in order, with the glue between two of them.
use Rattle.std.specs.Prelude.{ℕ, List, [], ◌∷◌, ◌++◌, map}
use Rattle.dg_base.specs.declared.datum.Datum.TheVariants as datum
use Rattle.dg_base.specs.declared.schema.ArgVal.{ArgVal}
use Rattle.dg_base.specs.declared.schema.Made.{Made}
use Rattle.dg_base.specs.Value.{made_good}
use Rattle.dg_kinds_go.specs.Values.{value_at, values_at, text_in}

abbrev pub each_after : List ℕ → List (List ℕ) → List ℕ
each_after glue [] = []
each_after glue (part ∷ parts) = (glue ++ part) ++ each_after glue parts

abbrev pub glued : List ℕ → List (List ℕ) → List ℕ
glued glue [] = []
glued glue (part ∷ parts) = part ++ each_after glue parts

-- the arguments are the parts and the glue
abbrev pub join_joined : List ArgVal → Made
join_joined args = made_good (datum.Text (glued (text_in (value_at args 1)) (map text_in (values_at args 0))))
