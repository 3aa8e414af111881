-- Each step of a transaction, and so a whole one, leads from a sound graph to a sound graph.
use Rattle.std.proofs.Common.{◌≡◌, ℕ, ◌+◌, ◌≤◌, Bool, true, false, not, cond, ◌&&◌, List, [], ◌∷◌, ◌++◌, Option, Some, None, Result, Ok, Err, IsTrue, refl, subst, arith}
use Rattle.std.specs.Prelude.{IfOk}
use Rattle.dg_base.specs.declared.ids.NodeId.{NodeId}
use Rattle.dg_base.specs.declared.ids.Label.{Label}
use Rattle.dg_base.specs.declared.ids.Endpoint.{Endpoint}
use Rattle.dg_base.specs.declared.ids.ArcRec.{ArcRec}
use Rattle.dg_base.specs.declared.step.NodeRef.{NodeRef}
use Rattle.dg_base.specs.declared.step.Step.{Step}
use Rattle.dg_base.specs.declared.step.Step.TheVariants as step
use Rattle.dg_base.specs.declared.step.TxCode.{TxCode}
use Rattle.dg_base.specs.declared.step.RefusedStep.{RefusedStep}
use Rattle.dg_base.specs.Role.{cascades, given, taken}
use Rattle.dg_base.specs.Tables.{Tables}
use Rattle.dg_base.specs.Graph.{Graph, has_node}
use Rattle.dg_base.specs.Sound.{IsSound, role_at, ids_below}
use Rattle.dg_base.specs.Refusal.{and_then}
use Rattle.dg_base.specs.Changes.{is_arc}
use Rattle.dg_base.specs.Progress.{Progress, IsReady}
use Rattle.dg_base.specs.Steps.{there, there_if, typed_arc, populated, connect_nodes, connect_step, id_named, node_named, step_of}
use Rattle.dg_base.specs.Touched.{touched_by}
use Rattle.dg_base.specs.Transact.{Applied, applied_from, applied, at_step}
use Rattle.dg_laws.proofs.SoundSteps.{IsAfter, LeadsOn, IsThere, led_to, make_step-leads, set_step-leads, clear_step-leads, mark_step-leads, delete_step-leads, disconnect_step-leads, arc_step-leads, typed_arc-leads, unchanged}
use Rattle.dg_laws.proofs.SoundOverrides.{override_step-leads, populate-leads, and_then-leads}

-- ---- Connect

populated-leads : {t : Tables} {p : Progress} → IsReady t p → (a : ArcRec) (populates : Bool) → LeadsOn t p (populated t a populates p)
populated-leads r a true = populate-leads r a.node a.input
populated-leads r a false = unchanged r

pub connect_nodes-leads : {t : Tables} {p : Progress} → IsReady t p → (a : ArcRec) → IsTrue (has_node p.graph a.src.node) → IsTrue (has_node p.graph a.node) → LeadsOn t p (connect_nodes t p a)
connect_nodes-leads {t} {p} r a src_there there =
    let input = role_at t p.graph a.node a.input in
    let gives = given (role_at t p.graph a.src.node a.src.label) in
    let populates = cascades input && not (is_arc p.graph a) in
    and_then-leads t p (typed_arc p a input gives (taken input)) (populated t a populates)
    (typed_arc-leads t p a input gives (taken input) (λ types. arc_step-leads r a src_there there types))
    (λ q ready. populated-leads ready a populates)

pub connect_step-leads : {t : Tables} {p : Progress} → IsReady t p → (source : Option NodeId) (l : Label) (target : Option NodeId) (i : Label) → IsThere p.graph source → IsThere p.graph target →
    LeadsOn t p (connect_step t p source l target i)
connect_step-leads r None l target i a b = tt
connect_step-leads r (Some n) l None i a b = tt
connect_step-leads {t} {p} r (Some n) l (Some m) i a b = connect_nodes-leads r (record { src = record { node = n; label = l }; node = m; input = i }) a b

-- ---- a step

there-is : (g : Graph) (n : NodeId) → IsThere g (there g n)
there-is g n = by_test (has_node g n) refl
  where
    by_test : (b : Bool) → has_node g n ≡ b → IsThere g (cond b (Some n) None)
    by_test true e = e
    by_test false e = tt

pub there_if-is : (g : Graph) (o : Option NodeId) → IsThere g (there_if g o)
there_if-is g None = tt
there_if-is g (Some n) = there-is g n

-- what a reference names is a node of the graph
pub node_named-is : (p : Progress) (n : NodeRef) → IsThere p.graph (node_named p n)
node_named-is p n = there_if-is p.graph (id_named p n)

pub step_of-leads : {t : Tables} {p : Progress} → IsReady t p → (s : Step) → LeadsOn t p (step_of t p s)
step_of-leads r (step.Make k) = make_step-leads r k
step_of-leads {t} {p} r (step.Override n) = override_step-leads r (node_named p n) (node_named-is p n)
step_of-leads {t} {p} r (step.Set n l v) = set_step-leads r (node_named p n) l v
step_of-leads {t} {p} r (step.Clear n l) = clear_step-leads r (node_named p n) l
step_of-leads {t} {p} r (step.Connect s l n i) = connect_step-leads r (node_named p s) l (node_named p n) i (node_named-is p s) (node_named-is p n)
step_of-leads {t} {p} r (step.Disconnect s l n i) = disconnect_step-leads r (node_named p s) l (node_named p n) i
step_of-leads {t} {p} r (step.Delete n) = delete_step-leads r (node_named p n)
step_of-leads {t} {p} r (step.Mark n defective) = mark_step-leads r (node_named p n) defective

pub step_of-after : {t : Tables} {p q : Progress} → IsReady t p → (s : Step) → step_of t p s ≡ Ok q → IsAfter t p q
step_of-after {t} {p} r s e = led_to (step_of t p s) (step_of-leads r s) e

-- ---- a transaction

pub record IsDone (t : Tables) (next : ℕ) (a : Applied) : Type 0 where
  pub sound : IsSound t a.graph
  pub below : IsTrue (ids_below a.graph a.next)
  pub some : 1 ≤ a.next
  pub later : next ≤ a.next

done_later : (t : Tables) (m n : ℕ) (r : Result Applied RefusedStep) → m ≤ n → IfOk r (IsDone t n) → IfOk r (IsDone t m)
done_later t m n (Ok a) le h = let later = h.later in record { sound = h.sound; below = h.below; some = h.some; later = omega (arith, le, later) }
done_later t m n (Err c) le h = tt

at_step-done : (t : Tables) (number : ℕ) (p : Progress) (q : Result Progress TxCode) (f : Progress → Result Applied RefusedStep) → LeadsOn t p q →
    ((z : Progress) → IsReady t z → IfOk (f z) (IsDone t z.next)) → IfOk (and_then (at_step number q) f) (IsDone t p.next)
at_step-done t number p (Ok q) f h later = done_later t p.next q.next (f q) h.later (later q h.ready)
at_step-done t number p (Err c) f h later = tt

pub applied_from-done : (ss : List Step) {t : Tables} {p : Progress} → IsReady t p → (number : ℕ) (touched : List Endpoint) → IfOk (applied_from t ss number p touched) (IsDone t p.next)
applied_from-done [] r number touched = record { sound = r.sound; below = r.below; some = r.some; later = omega arith }
applied_from-done (s ∷ ss) {t} {p} r number touched =
    at_step-done t number p (step_of t p s) (λ q. applied_from t ss (number + 1) q (touched ++ touched_by t p q s)) (step_of-leads r s)
    (λ z ready. applied_from-done ss ready (number + 1) (touched ++ touched_by t p z s))

-- the graph of an accepted transaction is sound
pub applied-done : {t : Tables} {g : Graph} → IsSound t g → (next : ℕ) → IsTrue (ids_below g next) → 1 ≤ next → (ss : List Step) → IfOk (applied t g next ss) (IsDone t next)
applied-done s next below some ss = applied_from-done ss (record { sound = s; below = below; some = some }) 1 []

pub applied-is_done : {t : Tables} {g : Graph} → IsSound t g → (next : ℕ) → IsTrue (ids_below g next) → 1 ≤ next → (ss : List Step) (a : Applied) → applied t g next ss ≡ Ok a → IsDone t next a
applied-is_done {t} {g} s next below some ss a e = subst (λ (r : Result Applied RefusedStep). IfOk r (IsDone t next)) e (applied-done s next below some ss)
