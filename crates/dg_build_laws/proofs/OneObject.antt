-- The values of the worked graph, from its component up, each by those that it reads.
use Rattle.std.proofs.Common.{◌≡◌, ℕ, suc, cond, List, [], ◌∷◌, ap, ◌∙◌}
use Rattle.std.specs.Prelude.{codes, pos}
use Rattle.std.specs.List.{list_any}
use Rattle.std.specs.Fmt.{digits}
use Rattle.dg_base.specs.declared.ids.Endpoint.{Endpoint}
use Rattle.dg_base.specs.declared.ids.Label.{Label}
use Rattle.dg_base.specs.declared.datum.Datum.{Datum, items_hidden-the_row-Datum-0, items_hidden-the_row-FieldOf-1}
use Rattle.dg_base.specs.declared.datum.Datum.TheVariants as datum
use Rattle.dg_base.specs.declared.answer.Answer.{Answer}
use Rattle.dg_base.specs.declared.answer.Answer.TheVariants as answer
use Rattle.dg_base.specs.declared.schema.ArgVal.{ArgVal}
use Rattle.dg_base.specs.declared.schema.ArgVal.TheVariants as arg_val
use Rattle.dg_base.specs.Graph.{Graph}
use Rattle.dg_base.specs.Value.{good, is_cycle, produced, value_within}
use Rattle.dg_base.proofs.Weights.{weight-List, weight-Rec}
use Rattle.dg_labels.specs.declared.kinds.TheConstants.{GAME_OBJECT}
use Rattle.dg_labels.specs.declared.labels.TheConstants.{PATH, ID, TYPE, DATA, POSITION, ROTATION, COMPONENT, COMPONENTS, OBJECT, BUILD}
use Rattle.dg_kinds_go.specs.Values.{field}
use Rattle.dg_kinds_coll.specs.Places.{equal3, unturned}
use Rattle.dg_kinds_coll.specs.Defold.{defold_tables}
use Rattle.dg_build_laws.specs.Worked.{node_id, with_type, built, paths_of}

abbrev at : ℕ → Label → Endpoint
at n l = record { node = node_id n; label = l }

abbrev text : List ℕ → Datum
text t = datum.Text t

abbrev component : Datum
component = datum.Rec (
    field ID (text (codes "b"))
    ∷ field TYPE (text (codes "t"))
    ∷ field DATA (text (codes "x"))
    ∷ field POSITION (datum.Vec3 (equal3 (pos 0)))
    ∷ field ROTATION (datum.Quat unturned)
    ∷ []
    )

abbrev object : Datum
object = datum.Rec (field PATH (text (codes "/a.go")) ∷ field COMPONENTS (datum.List (component ∷ [])) ∷ [])

abbrev graph : Graph
graph = with_type (codes "t")

component_at : (k : ℕ) → value_within (suc (suc k)) defold_tables graph (at 2 COMPONENT) ≡ good component
component_at k = simp (weight-Rec)

-- an output by the one value that isn't an own one
abbrev called : Label → (Answer → List ArgVal) → Answer → Answer
called l args a = cond (list_any is_cycle (a ∷ [])) answer.Cycle (produced defold_tables (at 1 l) GAME_OBJECT l (args a))

abbrev object_with : Answer → Answer
object_with = called OBJECT (λ a. arg_val.One (good (text (codes "/a.go"))) ∷ arg_val.Many (a ∷ []) ∷ [])

object_of : object_with (good component) ≡ good object
object_of = simp (weight-Rec, weight-List)

object_at : (k : ℕ) → value_within (suc (suc (suc k))) defold_tables graph (at 1 OBJECT) ≡ good object
object_at k = ap object_with (component_at k) ∙ object_of

abbrev build_with : Answer → Answer
build_with = called BUILD (λ a. arg_val.One a ∷ [])

build_of_object : build_with (good object) ≡ good object
build_of_object = simp (weight-Rec, weight-List, items_hidden-the_row-FieldOf-1)

pub builds : built graph ≡ good object
builds = ap build_with (object_at 6) ∙ build_of_object

pub paths : paths_of (good object) ≡ codes "/a_component_0.tc" ∷ codes "/a.goc" ∷ []
unfolding digits
paths = simp (items_hidden-the_row-Datum-0, items_hidden-the_row-FieldOf-1)
