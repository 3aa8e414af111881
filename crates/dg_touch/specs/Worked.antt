-- A graph with two levels of overrides, and what four transactions make of it.
use Rattle.std.specs.Prelude.{◌≡◌, ℕ, List, [], ◌∷◌, ◌++◌, true, map}
use Rattle.dg_base.specs.declared.ids.Endpoint.{Endpoint}
use Rattle.dg_base.specs.declared.step.NodeRef.{Id}
use Rattle.dg_base.specs.declared.step.Step.{Step}
use Rattle.dg_base.specs.declared.step.Step.TheVariants as step
use Rattle.dg_base.specs.Graph.{Graph}
use Rattle.dg_base.specs.Rule.{rule_of}
use Rattle.dg_base.specs.Changes.{with_value, with_mark}
use Rattle.dg_base.specs.First.{value, terms, owning_tables}
use Rattle.dg_base.specs.Worked.{node_id, arc_from, whole, num_set, sum_node, over, done}
use Rattle.dg_touch.specs.Laws.{IsAccepted}

-- a sum that owns its number, an override of both, and an override of that one; beside them another
-- number and a sum of it
abbrev pub two_levels : Graph
two_levels = record {
  nodes = num_set 1 5 ∷ sum_node 2 ∷ over 3 3 2 ∷ over 4 3 1 ∷ over 5 5 3 ∷ over 6 5 4 ∷ num_set 7 8 ∷ sum_node 8 ∷ [];
  arcs = arc_from 1 value 2 terms ∷ arc_from 7 value 8 terms ∷ [];
}

-- the first number set to 7
abbrev pub set_to_seven : Graph
set_to_seven = with_value two_levels (node_id 1) value (whole 7)

-- the other number connected to the first sum too: it has got an override node in both overrides
abbrev pub with_source : Graph
with_source = record {
  nodes = two_levels.nodes ++ over 9 3 7 ∷ over 10 5 9 ∷ [];
  arcs = two_levels.arcs ++ arc_from 7 value 2 terms ∷ [];
}

-- the first override of the sum marked
abbrev pub marked_override : Graph
marked_override = with_mark two_levels (node_id 3) true

-- the first number deleted, and with it its override nodes
abbrev pub without_number : Graph
without_number = record {
  nodes = sum_node 2 ∷ over 3 3 2 ∷ over 5 5 3 ∷ num_set 7 8 ∷ sum_node 8 ∷ [];
  arcs = arc_from 7 value 8 terms ∷ [];
}

abbrev pub marks : ℕ → List Step
marks n = step.Mark (Id (node_id n)) true ∷ []

-- a transaction from this graph, whose next id is 9, is accepted, gives a graph and a next id, and touches these
abbrev pub Touches : List Step → Graph → ℕ → List Endpoint → Type 0
Touches ss h next es = IsAccepted owning_tables two_levels 9 ss (done h next es)

-- these endpoints have the rules that they have in it
abbrev pub AgreesAt : Graph → List Endpoint → Type 0
AgreesAt h es = map (rule_of owning_tables h) es ≡ map (rule_of owning_tables two_levels) es
