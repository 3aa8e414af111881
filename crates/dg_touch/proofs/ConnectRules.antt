-- Connect touches every endpoint whose rule it changes: the outputs that read the input, and what the nodes
-- that it populates with touch.
use Rattle.std.proofs.Common.{◌≡◌, ℕ, Bool, true, false, cond, not, ◌&&◌, List, ◌++◌, Option, Some, None, Ok, Err, length, IsTrue, nat_lt, refl, subst}
use Rattle.std.specs.List.{list_any}
use Rattle.std.specs.Prelude.{IfOk}
use Rattle.dg_base.specs.declared.ids.NodeId.{NodeId}
use Rattle.dg_base.specs.declared.ids.Label.{Label}
use Rattle.dg_base.specs.declared.ids.Endpoint.{Endpoint}
use Rattle.dg_base.specs.declared.ids.ArcRec.{ArcRec}
use Rattle.dg_base.specs.declared.schema.Ty.{Ty}
use Rattle.dg_base.specs.declared.schema.Role.{Role}
use Rattle.dg_base.specs.declared.step.TxCode.TheVariants as code
use Rattle.dg_base.specs.Same.{same_arc, same_ty}
use Rattle.dg_base.specs.Role.{cascades, given, taken, is_array}
use Rattle.dg_base.specs.Tables.{Tables, AreTables}
use Rattle.dg_base.specs.Graph.{has_node}
use Rattle.dg_base.specs.Sound.{max_arcs, role_at}
use Rattle.dg_base.specs.Changes.{with_arc, without_arcs_into, is_arc}
use Rattle.dg_base.specs.Progress.{Progress, changed_to, IsReady}
use Rattle.dg_base.specs.Populate.{populate}
use Rattle.dg_base.specs.Steps.{freed, connected, arc_step, typed_arc, populated, connect_nodes, connect_step}
use Rattle.dg_base.specs.Touched.{touched_readers, touched_nodes, nodes_from}
use Rattle.dg_laws.proofs.SoundSteps.{IsThere, arc_step-leads, typed_arc-leads}
use Rattle.dg_laws.proofs.SoundOverrides.{populate-leads}
use Rattle.dg_touch.specs.Laws.{RulesAgreeOutside}
use Rattle.dg_touch.proofs.Results.{ok_both, and_then-ok}
use Rattle.dg_touch.proofs.Outside.{rules-then, rules-more}
use Rattle.dg_touch.proofs.ArcChanges.{rules-with_arc, rules-replaced_arc}
use Rattle.dg_touch.proofs.StepsGrow.{populate-grows, rules-new}

-- ---- an arc

-- what Connect does before it populates
record Arced (t : Tables) (p : Progress) (n : NodeId) (i : Label) (q : Progress) : Type 0 where
  rules : RulesAgreeOutside t p.graph q.graph (touched_readers t p.graph (Some n) i)
  next : q.next ≡ p.next

arc_step-arced : {t : Tables} → AreTables t → (p : Progress) (a : ArcRec) (w : Role) → IfOk (arc_step p a w) (Arced t p a.node a.input)
arc_step-arced {t} laws p a w = by_test (list_any (same_arc a) p.graph.arcs)
  where
    by_array : (b : Bool) → Arced t p a.node a.input (changed_to p (with_arc (cond b p.graph (without_arcs_into p.graph a.node a.input)) a))
    by_array true = record { rules = rules-with_arc laws p.graph a; next = refl }
    by_array false = record { rules = rules-replaced_arc laws p.graph a; next = refl }

    by_room : (b : Bool) → IfOk (cond b (Ok (changed_to p (with_arc (freed w p.graph a) a))) (Err code.TooManyArcs)) (Arced t p a.node a.input)
    by_room true = by_array (is_array w)
    by_room false = tt

    by_test : (b : Bool) → IfOk (cond b (Ok p) (connected p a (freed w p.graph a))) (Arced t p a.node a.input)
    by_test true = record { rules = λ e out. refl; next = refl }
    by_test false = by_room (nat_lt (length (freed w p.graph a).arcs) max_arcs)

typed_arc-arced : {t : Tables} → AreTables t → (p : Progress) (a : ArcRec) (w : Role) (gives takes : Option Ty) →
    IfOk (typed_arc p a w gives takes) (Arced t p a.node a.input)
typed_arc-arced laws p a w None takes = tt
typed_arc-arced laws p a w (Some x) None = tt
typed_arc-arced {t} laws p a w (Some x) (Some y) = by_test (same_ty x y)
  where
    by_test : (b : Bool) → IfOk (cond b (arc_step p a w) (Err code.ArcType)) (Arced t p a.node a.input)
    by_test true = arc_step-arced laws p a w
    by_test false = tt

-- ---- and what it populates with

abbrev pub touched_connect : Tables → Progress → Progress → Option NodeId → Label → List Endpoint
touched_connect t p q target i = touched_readers t p.graph target i ++ touched_nodes t q.graph (nodes_from p.next q.graph)

-- and the next step can be done
record ArcedReady (t : Tables) (p : Progress) (a : ArcRec) (q : Progress) : Type 0 where
  arced : Arced t p a.node a.input q
  ready : IsReady t q

populated-rules : {t : Tables} {p q : Progress} {a : ArcRec} → AreTables t → (populates : Bool) → ArcedReady t p a q →
    IfOk (populated t a populates q) (λ z. RulesAgreeOutside t p.graph z.graph (touched_connect t p z (Some a.node) a.input))
populated-rules {t} {p} {q} {a} laws true h =
    ok_both (populate t q a.node a.input) (λ z w led.
    let new = rules-new laws h.ready led.ready w in
    rules-then t p.graph q.graph z.graph (touched_readers t p.graph (Some a.node) a.input) (touched_nodes t z.graph (nodes_from p.next z.graph)) h.arced.rules
    (subst (λ (k : ℕ). RulesAgreeOutside t q.graph z.graph (touched_nodes t z.graph (nodes_from k z.graph))) h.arced.next new))
    (populate-grows t q a.node a.input) (populate-leads h.ready a.node a.input)
populated-rules {t} {p} {q} {a} laws false h =
    rules-more t p.graph q.graph (touched_readers t p.graph (Some a.node) a.input) (touched_nodes t q.graph (nodes_from p.next q.graph)) h.arced.rules

connect_nodes-rules : {t : Tables} {p : Progress} → AreTables t → IsReady t p → (a : ArcRec) → IsTrue (has_node p.graph a.src.node) → IsTrue (has_node p.graph a.node) →
    IfOk (connect_nodes t p a) (λ q. RulesAgreeOutside t p.graph q.graph (touched_connect t p q (Some a.node) a.input))
connect_nodes-rules {t} {p} laws r a from to =
    let input = role_at t p.graph a.node a.input in
    let gives = given (role_at t p.graph a.src.node a.src.label) in
    let populates = cascades input && not (is_arc p.graph a) in
    let after : IfOk (typed_arc p a input gives (taken input)) (ArcedReady t p a) =
    ok_both (typed_arc p a input gives (taken input)) (λ q w led. record { arced = w; ready = led.ready })
    (typed_arc-arced laws p a input gives (taken input)) (typed_arc-leads t p a input gives (taken input) (λ types. arc_step-leads r a from to types))
    in
    and_then-ok (λ z. RulesAgreeOutside t p.graph z.graph (touched_connect t p z (Some a.node) a.input))
    (typed_arc p a input gives (taken input)) (populated t a populates) after (λ q h. populated-rules laws populates h)

pub connect_step-rules : {t : Tables} {p : Progress} → AreTables t → IsReady t p → (source : Option NodeId) (l : Label) (target : Option NodeId) (i : Label) →
    IsThere p.graph source → IsThere p.graph target → IfOk (connect_step t p source l target i) (λ q. RulesAgreeOutside t p.graph q.graph (touched_connect t p q target i))
connect_step-rules laws r None l target i a b = tt
connect_step-rules laws r (Some n) l None i a b = tt
connect_step-rules laws r (Some n) l (Some m) i a b =
    connect_nodes-rules laws r (record { src = record { node = n; label = l }; node = m; input = i }) a b
