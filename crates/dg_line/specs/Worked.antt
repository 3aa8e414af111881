-- Two changes of a graph of three sums, one after the other.
use Rattle.std.specs.Prelude.{ℕ, [], ◌∷◌}
use Rattle.dg_base.specs.declared.ids.Endpoint.{Endpoint}
use Rattle.dg_base.specs.Changes.{with_value}
use Rattle.dg_base.specs.First.{value, first_tables}
use Rattle.dg_base.specs.Worked.{at, node_id, whole, three_sums}
use Rattle.dg_line.specs.declared.counters.Counted.{Counted}
use Rattle.dg_line.specs.Revisions.{Seen, first_revision, followed}

abbrev pub counted : Endpoint → ℕ → Counted
counted e n = record { at = e; count = n }

abbrev pub begun : Seen
begun = first_revision three_sums 6

-- the number that all three sums read is set
abbrev pub first_set : Seen
first_set = followed first_tables begun (with_value begun.graph (node_id 1) value (whole 7)) 6 (at 1 value ∷ [])

-- the number that the last sum alone reads is set
abbrev pub other_set : Seen
other_set = followed first_tables first_set (with_value first_set.graph (node_id 5) value (whole 8)) 6 (at 5 value ∷ [])
