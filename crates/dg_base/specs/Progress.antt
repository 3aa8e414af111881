-- A transaction as far as it was done.
use Rattle.std.specs.Prelude.{ℕ, ◌≤◌, List, ◌∷◌, [], ◌++◌, IsTrue}
use Rattle.dg_base.specs.declared.ids.NodeId.{NodeId}
use Rattle.dg_base.specs.Tables.{Tables}
use Rattle.dg_base.specs.Graph.{Graph}
use Rattle.dg_base.specs.Sound.{IsSound, ids_below}

-- the graph, the next id, and the nodes that its steps made
pub record Progress : Type 0 where
  pub graph : Graph
  pub next : ℕ
  pub made : List NodeId

abbrev pub changed_to : Progress → Graph → Progress
changed_to p g = record { graph = g; next = p.next; made = p.made }

-- a node more that a step made
abbrev pub with_made : Progress → NodeId → Progress
with_made p n = record { graph = p.graph; next = p.next; made = p.made ++ n ∷ [] }

-- whether the next step can be done on it: the graph is sound, and its ids are below the next one
pub record IsReady (t : Tables) (p : Progress) : Type 0 where
  pub sound : IsSound t p.graph
  pub below : IsTrue (ids_below p.graph p.next)
  pub some : 1 ≤ p.next
