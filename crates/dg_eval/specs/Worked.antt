-- A graph of a number, a sum of it, and a sum of that.
use Rattle.std.specs.Prelude.{[], ◌∷◌}
use Rattle.dg_base.specs.Graph.{Graph}
use Rattle.dg_base.specs.First.{value, terms, total}
use Rattle.dg_base.specs.Worked.{num_node, sum_node, arc_from}

abbrev pub chained : Graph
chained = record { nodes = num_node 1 ∷ sum_node 2 ∷ sum_node 3 ∷ []; arcs = arc_from 1 value 2 terms ∷ arc_from 2 total 3 terms ∷ [] }
