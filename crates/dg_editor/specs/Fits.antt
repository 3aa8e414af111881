-- What holds of an editor at every moment.
use Rattle.std.specs.Prelude.{◌≡◌, ℕ, ◌≤◌, List, [], ◌∷◌, All, IsTrue, length}
use Rattle.dg_base.specs.Tables.{Tables}
use Rattle.dg_base.specs.Graph.{Graph}
use Rattle.dg_base.specs.Sound.{IsSound, ids_below}
use Rattle.dg_line.specs.Revisions.{Seen}
use Rattle.dg_editor.specs.Changes.{Changed}
use Rattle.dg_editor.specs.Machine.{State}

-- neighbouring changes fit: the near side of the latest one is the graph, and the near side of each other
-- one is the far side of the one before it in the list
abbrev pub Lead : (Changed → Graph) → (Changed → Graph) → Graph → List Changed → Type 0
Lead near far g [] = Unit {0}
Lead near far g (c ∷ cs) = (near c ≡ g) × Lead near far (far c) cs

-- what can be undone led to the graph
abbrev pub LeadTo : Graph → List Changed → Type 0
LeadTo g cs = Lead (λ c. c.after) (λ c. c.before) g cs

-- what can be done again leads from it
abbrev pub LeadFrom : Graph → List Changed → Type 0
LeadFrom g cs = Lead (λ c. c.before) (λ c. c.after) g cs

-- the ids of both graphs are below a number
abbrev pub IsBelow : ℕ → Changed → Type 0
IsBelow n c = IsTrue (ids_below c.before n) × IsTrue (ids_below c.after n)

-- the next id is above every id of the graph and of every graph that can come back; neighbouring changes
-- fit; each revision has its number's place, and a sound graph
pub record IsRight (t : Tables) (s : State) : Type 0 where
  pub some : 1 ≤ s.now.next
  pub below : IsTrue (ids_below s.now.graph s.now.next)
  pub number : length s.passed ≡ s.now.number
  pub sound : All (λ (r : Seen). IsSound t r.graph) (s.now ∷ s.passed)
  pub to : LeadTo s.now.graph s.history.undo
  pub from : LeadFrom s.now.graph s.history.redo
  pub undo_below : All (IsBelow s.now.next) s.history.undo
  pub redo_below : All (IsBelow s.now.next) s.history.redo
