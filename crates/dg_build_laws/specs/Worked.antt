-- Small graphs of which the checker computes the build files.
use Rattle.std.specs.Prelude.{ℕ, List, [], ◌∷◌, false, map, codes}
use Rattle.dg_base.specs.declared.ids.NodeId.{NodeId}
use Rattle.dg_base.specs.declared.ids.Label.{Label}
use Rattle.dg_base.specs.declared.ids.Kind.{Kind}
use Rattle.dg_base.specs.declared.ids.ArcRec.{ArcRec}
use Rattle.dg_base.specs.declared.datum.Datum.TheVariants as datum
use Rattle.dg_base.specs.declared.datum.FieldOf.{FieldOf}
use Rattle.dg_base.specs.declared.graph.Node.{Node}
use Rattle.dg_base.specs.declared.graph.Origin.TheVariants as origin
use Rattle.dg_base.specs.declared.answer.Answer.{Answer}
use Rattle.dg_base.specs.declared.answer.Answer.TheVariants as answer
use Rattle.dg_base.specs.Graph.{Graph}
use Rattle.dg_base.specs.Value.{value_at}
use Rattle.dg_labels.specs.declared.kinds.TheConstants.{GAME_OBJECT, COMPONENT_EMBEDDED}
use Rattle.dg_labels.specs.declared.labels.TheConstants.{PATH, ID, TYPE, DATA, COMPONENT, COMPONENTS}
use Rattle.dg_kinds_coll.specs.Defold.{defold_tables}
use Rattle.dg_build.specs.Targets.{targets}
use Rattle.dg_build_laws.specs.Laws.{build_of}

abbrev pub node_id : ℕ → NodeId
node_id n = record { 0 = n }

abbrev pub own : Label → List ℕ → FieldOf
own l text = record { label = l; value = datum.Text text }

abbrev pub node : ℕ → Kind → List FieldOf → Node
node n kind values = record { id = node_id n; origin = origin.Plain kind; defective = false; own = values }

-- an arc to a game object from a component of it
abbrev pub part : ℕ → ℕ → ArcRec
part n of = record { src = record { node = node_id n; label = COMPONENT }; node = node_id of; input = COMPONENTS }

-- a game object with one embedded component, whose type is this
abbrev pub with_type : List ℕ → Graph
with_type kind = record {
  nodes = node 1 GAME_OBJECT (own PATH (codes "/a.go") ∷ [])
      ∷ node 2 COMPONENT_EMBEDDED (own ID (codes "b") ∷ own TYPE kind ∷ own DATA (codes "x") ∷ [])
      ∷ [];
  arcs = part 2 1 ∷ [];
}

abbrev pub built : Graph → Answer
built g = value_at defold_tables g (build_of (node_id 1))

-- the paths of the build files of a good value
abbrev pub paths_of : Answer → List (List ℕ)
paths_of (answer.Good d) = map (λ f. f.path) (targets d [])
paths_of _ = []
