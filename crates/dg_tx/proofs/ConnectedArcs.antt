-- What Connect leaves where the arc fits.
use Rattle.std.proofs.Common.{◌≡◌, ℕ, ◌<◌, false, [], length, Option, Ok, IsTrue, sym, ap, ◌∙◌, subst}
use Rattle.dg_base.specs.declared.ids.ArcRec.{ArcRec}
use Rattle.dg_base.specs.declared.schema.Role.{Role}
use Rattle.dg_base.specs.declared.schema.Ty.{Ty}
use Rattle.dg_base.specs.Role.{given, taken}
use Rattle.dg_base.specs.Tables.{Tables}
use Rattle.dg_base.specs.Graph.{Graph, has_node}
use Rattle.dg_base.specs.Sound.{IsSound, agree, ids_below, max_arcs, role_at}
use Rattle.dg_base.specs.Changes.{is_arc, with_arc}
use Rattle.dg_base.specs.Progress.{Progress, IsReady}
use Rattle.dg_base.specs.Steps.{freed, typed_arc}
use Rattle.dg_base.specs.Touched.{nodes_from, touched_nodes}
use Rattle.dg_laws.proofs.SoundSteps.{arc_step-leads, freed_arc-sound, led_to, typed_arc-leads}
use Rattle.dg_tx.proofs.NewIds.{nodes_from-none}
use Rattle.dg_tx.proofs.UnreadNodes.{touched_nodes-none}

-- an arc whose ends are there, with what its source gives and what its input is
module _ {t : Tables} {p : Progress} (r : IsReady t p) (a : ArcRec) (src_there : IsTrue (has_node p.graph a.src.node)) (there : IsTrue (has_node p.graph a.node))
    {gives : Option Ty} (gives_is : gives ≡ given (role_at t p.graph a.src.node a.src.label)) {input : Role} (input_is : input ≡ role_at t p.graph a.node a.input) where
  agreed : IsTrue (agree gives (taken input)) → IsTrue (agree (given (role_at t p.graph a.src.node a.src.label)) (taken (role_at t p.graph a.node a.input)))
  agreed types = ap (λ (w : Role). agree (given (role_at t p.graph a.src.node a.src.label)) (taken w)) (sym input_is) ∙ ap (λ (o : Option Ty). agree o (taken input)) (sym gives_is) ∙ types

  -- a new arc whose types are equal
  pub new_arc-sound : IsTrue (agree gives (taken input)) → is_arc p.graph a ≡ false → length (freed input p.graph a).arcs < max_arcs → IsSound t (with_arc (freed input p.graph a) a)
  new_arc-sound types new =
      subst (λ (w : Role). length (freed w p.graph a).arcs < max_arcs → IsSound t (with_arc (freed w p.graph a) a)) (sym input_is)
      (freed_arc-sound r.sound a src_there there (agreed types) new)

  pub typed_arc-ready : (q : Progress) → typed_arc p a input gives (taken input) ≡ Ok q → IsReady t q
  typed_arc-ready q done =
      let w : Role = role_at t p.graph a.node a.input in
      let o : Option Ty = given (role_at t p.graph a.src.node a.src.label) in
      let same : typed_arc p a input gives (taken input) ≡ typed_arc p a w o (taken w) =
      ap (λ (z : Role). typed_arc p a z gives (taken z)) input_is ∙ ap (λ (z : Option Ty). typed_arc p a w z (taken w)) gives_is
      in
      (led_to (typed_arc p a w o (taken w)) (typed_arc-leads t p a w o (taken w) (λ types. arc_step-leads r a src_there there types)) (sym same ∙ done)).ready

-- where no nodes are made none are touched
pub touched_no_nodes : (t : Tables) (g : Graph) (next : ℕ) → IsTrue (ids_below g next) → touched_nodes t g (nodes_from next g) ≡ []
touched_no_nodes t g next below = ap (touched_nodes t g) (nodes_from-none g next below) ∙ touched_nodes-none t g
