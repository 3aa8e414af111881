-- Steps of a transaction lead from a sound graph to a sound graph: all but those that make override
-- nodes.
use Rattle.std.proofs.Common.{◌≡◌, ℕ, ◌+◌, ◌<◌, ◌≤◌, Bool, true, false, not, cond, ◌&&◌, [], ◌∷◌, ◌++◌, Option, Some, None, Result, Ok, Err, length, IsTrue, nat_lt, nat_le, refl, sym, ap, ◌∙◌, subst, arith, true≢false, leb-true, ltb-true}
use Rattle.std.proofs.lemmas.Bool.{not-true}
use Rattle.std.specs.List.{list_any}
use Rattle.std.specs.Prelude.{IfOk}
use Rattle.dg_base.specs.declared.ids.NodeId.{NodeId}
use Rattle.dg_base.specs.declared.ids.Label.{Label}
use Rattle.dg_base.specs.declared.ids.Kind.{Kind}
use Rattle.dg_base.specs.declared.ids.ArcRec.{ArcRec}
use Rattle.dg_base.specs.declared.datum.Datum.{Datum}
use Rattle.dg_base.specs.declared.schema.Ty.{Ty}
use Rattle.dg_base.specs.declared.schema.Role.{Role}
use Rattle.dg_base.specs.declared.schema.Role.TheVariants as role
use Rattle.dg_base.specs.declared.step.TxCode.{TxCode}
use Rattle.dg_base.specs.declared.step.TxCode.TheVariants as code
use Rattle.dg_base.specs.Same.{same_node, same_label, same_arc, same_ty}
use Rattle.dg_base.specs.Role.{has_type, is_prop_named, given, taken, is_array}
use Rattle.dg_base.specs.Tables.{Tables}
use Rattle.dg_base.specs.Graph.{Graph, has_node, arcs_into}
use Rattle.dg_base.specs.Chain.{kind_of}
use Rattle.dg_base.specs.Rule.{is_open_label}
use Rattle.dg_base.specs.Sound.{IsSound, max_nodes, max_arcs, may_be_set, value_fits, role_by, role_at, agree, ids_below}
use Rattle.dg_base.specs.Owned.{doomed}
use Rattle.dg_base.specs.Changes.{plain_node, with_node, with_value, without_value, with_mark, with_arc, without_arc, without_arcs_into, without_nodes, is_arc}
use Rattle.dg_base.specs.Progress.{Progress, changed_to, IsReady}
use Rattle.dg_base.specs.Steps.{there, make_step, set_by, is_open_kind, set_step, clear_by, clear_step, freed, connected, arc_step, typed_arc, disconnect_arc, disconnect_step, delete_step, mark_step}
use Rattle.dg_laws.proofs.Members.{filter_nothing, Contains-from_filter}
use Rattle.dg_laws.proofs.Filters.{any-filter}
use Rattle.dg_laws.proofs.Nodes.{IsLinked-from_sound}
use Rattle.dg_laws.proofs.SoundParts.{role_at-kept}
use Rattle.dg_laws.proofs.SoundNodes.{with_node-below, with_plain-sound}
use Rattle.dg_laws.proofs.SoundValues.{valued-keeps, cleared-keeps, marked-keeps, edited-below, with_value-sound, without_value-sound, with_mark-sound}
use Rattle.dg_laws.proofs.SoundArcs.{with_arcs-keeps, without_arc-sound, without_arcs_into-sound, with_arc-sound}
use Rattle.dg_laws.proofs.SoundDeletes.{without_nodes-below, without_doomed-sound}

-- what a step leads to: ready again, and the next id isn't lower
pub record IsAfter (t : Tables) (p q : Progress) : Type 0 where
  pub ready : IsReady t q
  pub later : p.next ≤ q.next

abbrev pub LeadsOn : Tables → Progress → Result Progress TxCode → Type 0
LeadsOn t p r = IfOk r (λ q. IsAfter t p q)

-- a node of the graph, where there is one
abbrev pub IsThere : Graph → Option NodeId → Type 0
IsThere g None = Unit {0}
IsThere g (Some n) = IsTrue (has_node g n)

pub unchanged : {t : Tables} {p : Progress} → IsReady t p → IsAfter t p p
unchanged r = record { ready = r; later = omega arith }

pub after_that : {t : Tables} {p q : Progress} → IsAfter t p q → (r : Result Progress TxCode) → LeadsOn t q r → LeadsOn t p r
after_that a (Ok x) h = let first = a.later in let second = h.later in record { ready = h.ready; later = omega (arith, first, second) }
after_that a (Err c) h = tt

pub changed : {t : Tables} {p : Progress} → IsReady t p → (g : Graph) → IsSound t g → IsTrue (ids_below g p.next) → IsAfter t p (changed_to p g)
changed r g sound below = record { ready = record { sound = sound; below = below; some = r.some }; later = omega arith }

-- what was led to, by an equation
pub led_to : {t : Tables} {p q : Progress} (r : Result Progress TxCode) → LeadsOn t p r → r ≡ Ok q → IsAfter t p q
led_to {t} {p} r h e = subst (LeadsOn t p) e h

-- ---- Make

pub make_step-leads : {t : Tables} {p : Progress} → IsReady t p → (k : Kind) → LeadsOn t p (make_step p k)
make_step-leads {t} {p} r k = by_test (nat_le p.next max_nodes) refl
  where
    by_test : (b : Bool) → nat_le p.next max_nodes ≡ b →
        LeadsOn t p (cond b (Ok (record { graph = with_node p.graph (plain_node p.next k); next = p.next + 1; made = p.made ++ record { 0 = p.next } ∷ [] })) (Err code.TooManyNodes))
    by_test true e = record {
      ready = record {
        sound = with_plain-sound r.sound (record { 0 = p.next }) k r.below r.some (leb-true p.next max_nodes e);
        below = with_node-below p.graph (plain_node p.next k) p.next r.below refl;
        some = omega arith;
      };
      later = omega arith;
    }
    by_test false e = tt

-- ---- Set, Clear, Mark

pub fits_by_kind : (t : Tables) (o : Option Kind) (l : Label) (v : Datum) → may_be_set (is_open_kind t o) l v (role_by t o l) ≡ value_fits t o (record { label = l; value = v })
fits_by_kind t None l v = refl
fits_by_kind t (Some k) l v = refl

-- by the test that Set makes
pub with_value-tested : {t : Tables} {g : Graph} → IsSound t g → (n : NodeId) (l : Label) (v : Datum) →
    IsTrue (may_be_set (is_open_kind t (kind_of g n)) l v (role_at t g n l)) → IsSound t (with_value g n l v)
with_value-tested {t} {g} s n l v fits = with_value-sound s n l v (sym (fits_by_kind t (kind_of g n) l v) ∙ fits)

set_by-leads : {t : Tables} {p : Progress} → IsReady t p → (n : NodeId) (l : Label) (v : Datum) (opens : Bool) (w : Role) →
    (may_be_set opens l v w ≡ true → IsTrue (value_fits t (kind_of p.graph n) (record { label = l; value = v }))) → LeadsOn t p (set_by p n l v opens w)
set_by-leads {t} {p} r n l v opens (role.Property ty) fits = by_test (has_type ty v) fits
  where
    by_test : (b : Bool) → (b ≡ true → IsTrue (value_fits t (kind_of p.graph n) (record { label = l; value = v }))) →
        LeadsOn t p (cond b (Ok (changed_to p (with_value p.graph n l v))) (Err code.ValueType))
    by_test true fits = changed r (with_value p.graph n l v) (with_value-sound r.sound n l v (fits refl)) (edited-below (valued-keeps n l v) p.graph p.next r.below)
    by_test false fits = tt
set_by-leads {t} {p} r n l v opens role.Nothing fits = by_tests opens (is_open_label l) (is_prop_named l v) fits
  where
    by_tests : (a b c : Bool) → ((a && (b && c)) ≡ true → IsTrue (value_fits t (kind_of p.graph n) (record { label = l; value = v }))) →
        LeadsOn t p (cond (a && b) (cond c (Ok (changed_to p (with_value p.graph n l v))) (Err code.ValueType)) (Err code.NotProperty))
    by_tests true true true fits = changed r (with_value p.graph n l v) (with_value-sound r.sound n l v (fits refl)) (edited-below (valued-keeps n l v) p.graph p.next r.below)
    by_tests true true false fits = tt
    by_tests true false c fits = tt
    by_tests false b c fits = tt
set_by-leads r n l v opens (role.Output ty cached) fits = tt
set_by-leads r n l v opens (role.Input ty array cascade substitute) fits = tt

pub set_step-leads : {t : Tables} {p : Progress} → IsReady t p → (target : Option NodeId) (l : Label) (v : Datum) → LeadsOn t p (set_step t p target l v)
set_step-leads r None l v = tt
set_step-leads {t} {p} r (Some n) l v =
    set_by-leads r n l v (is_open_kind t (kind_of p.graph n)) (role_at t p.graph n l) (λ fits. sym (fits_by_kind t (kind_of p.graph n) l v) ∙ fits)

-- where Set isn't refused, the value passed the test
set_by-tested : (p : Progress) (n : NodeId) (l : Label) (v : Datum) (opens : Bool) (w : Role) → IfOk (set_by p n l v opens w) (λ q. IsTrue (may_be_set opens l v w))
set_by-tested p n l v opens (role.Property ty) = by_test (has_type ty v)
  where
    by_test : (b : Bool) → IfOk (cond b (Ok (changed_to p (with_value p.graph n l v))) (Err code.ValueType)) (λ q. b ≡ true)
    by_test true = refl
    by_test false = tt
set_by-tested p n l v opens role.Nothing = by_tests opens (is_open_label l) (is_prop_named l v)
  where
    by_tests : (a b c : Bool) →
        IfOk (cond (a && b) (cond c (Ok (changed_to p (with_value p.graph n l v))) (Err code.ValueType)) (Err code.NotProperty)) (λ q. (a && (b && c)) ≡ true)
    by_tests true true true = refl
    by_tests true true false = tt
    by_tests true false c = tt
    by_tests false b c = tt
set_by-tested p n l v opens (role.Output ty cached) = tt
set_by-tested p n l v opens (role.Input ty array cascade substitute) = tt

pub set_step-value : {t : Tables} {q : Progress} (p : Progress) → IsSound t p.graph → (n : NodeId) (l : Label) (v : Datum) → set_step t p (Some n) l v ≡ Ok q → IsSound t (with_value p.graph n l v)
set_step-value {t} p s n l v e =
    let opens = is_open_kind t (kind_of p.graph n) in
    let w = role_at t p.graph n l in
    with_value-tested s n l v (subst (λ (r : Result Progress TxCode). IfOk r (λ z. IsTrue (may_be_set opens l v w))) e (set_by-tested p n l v opens w))

clear_by-leads : {t : Tables} {p : Progress} → IsReady t p → (n : NodeId) (l : Label) (opens : Bool) (w : Role) → LeadsOn t p (clear_by p n l opens w)
clear_by-leads {t} {p} r n l opens (role.Property ty) = changed r (without_value p.graph n l) (without_value-sound r.sound n l) (edited-below (cleared-keeps n l) p.graph p.next r.below)
clear_by-leads {t} {p} r n l opens role.Nothing = by_test (opens && is_open_label l)
  where
    by_test : (b : Bool) → LeadsOn t p (cond b (Ok (changed_to p (without_value p.graph n l))) (Err code.NotProperty))
    by_test true = changed r (without_value p.graph n l) (without_value-sound r.sound n l) (edited-below (cleared-keeps n l) p.graph p.next r.below)
    by_test false = tt
clear_by-leads r n l opens (role.Output ty cached) = tt
clear_by-leads r n l opens (role.Input ty array cascade substitute) = tt

pub clear_step-leads : {t : Tables} {p : Progress} → IsReady t p → (target : Option NodeId) (l : Label) → LeadsOn t p (clear_step t p target l)
clear_step-leads r None l = tt
clear_step-leads {t} {p} r (Some n) l = clear_by-leads r n l (is_open_kind t (kind_of p.graph n)) (role_at t p.graph n l)

pub mark_step-leads : {t : Tables} {p : Progress} → IsReady t p → (target : Option NodeId) (defective : Bool) → LeadsOn t p (mark_step p target defective)
mark_step-leads r None defective = tt
mark_step-leads {t} {p} r (Some n) defective =
    changed r (with_mark p.graph n defective) (with_mark-sound r.sound n defective) (edited-below (marked-keeps n defective) p.graph p.next r.below)

-- ---- Delete

pub delete_step-leads : {t : Tables} {p : Progress} → IsReady t p → (target : Option NodeId) → LeadsOn t p (delete_step t p target)
delete_step-leads r None = tt
delete_step-leads {t} {p} r (Some n) =
    changed r (without_nodes p.graph (doomed t p.graph n)) (without_doomed-sound r.sound n) (without_nodes-below p.graph (doomed t p.graph n) p.next r.below)

-- ---- Disconnect

disconnect_arc-leads : {t : Tables} {p : Progress} → IsReady t p → (a : ArcRec) (takes : Option Ty) → LeadsOn t p (disconnect_arc p a takes)
disconnect_arc-leads r a None = tt
disconnect_arc-leads {t} {p} r a (Some ty) = by_test (is_arc p.graph a)
  where
    by_test : (b : Bool) → LeadsOn t p (cond b (Ok (changed_to p (without_arc p.graph a))) (Err code.NoArc))
    by_test true = changed r (without_arc p.graph a) (without_arc-sound r.sound a) r.below
    by_test false = tt

pub disconnect_step-leads : {t : Tables} {p : Progress} → IsReady t p → (source : Option NodeId) (l : Label) (target : Option NodeId) (i : Label) →
    LeadsOn t p (disconnect_step t p source l target i)
disconnect_step-leads r None l target i = tt
disconnect_step-leads r (Some n) l None i = tt
disconnect_step-leads {t} {p} r (Some n) l (Some m) i =
    disconnect_arc-leads r (record { src = record { node = n; label = l }; node = m; input = i }) (taken (role_at t p.graph m i))

-- ---- Connect, but for populating

-- into a single input, once the arcs that were there are gone
pub freed-sound : {t : Tables} {g : Graph} → IsSound t g → (a : ArcRec) (w : Role) → IsSound t (freed w g a)
freed-sound {t} {g} s a w = by_array (is_array w)
  where
    by_array : (b : Bool) → IsSound t (cond b g (without_arcs_into g a.node a.input))
    by_array true = s
    by_array false = without_arcs_into-sound s a.node a.input

pub freed_arc-sound : {t : Tables} {g : Graph} → IsSound t g → (a : ArcRec) → IsTrue (has_node g a.src.node) → IsTrue (has_node g a.node) →
    IsTrue (agree (given (role_at t g a.src.node a.src.label)) (taken (role_at t g a.node a.input))) → list_any (same_arc a) g.arcs ≡ false →
    length (freed (role_at t g a.node a.input) g a).arcs < max_arcs → IsSound t (with_arc (freed (role_at t g a.node a.input) g a) a)
freed_arc-sound {t} {g} s a src_there there types new few = by_array (is_array (role_at t g a.node a.input)) refl few
  where
    h : Graph
    h = without_arcs_into g a.node a.input

    role_kept : (n : NodeId) (l : Label) → IsTrue (has_node g n) → role_at t h n l ≡ role_at t g n l
    role_kept n l is = role_at-kept (IsLinked-from_sound s) (IsLinked-from_sound (without_arcs_into-sound s a.node a.input)) (with_arcs-keeps g h.arcs) t n l is

    types_kept : IsTrue (agree (given (role_at t h a.src.node a.src.label)) (taken (role_at t h a.node a.input)))
    types_kept =
        ap (λ (w : Role). agree (given w) (taken (role_at t h a.node a.input))) (role_kept a.src.node a.src.label src_there)
        ∙ ap (λ (w : Role). agree (given (role_at t g a.src.node a.src.label)) (taken w)) (role_kept a.node a.input there)
        ∙ types

    none_into : arcs_into h a.node a.input ≡ []
    none_into = filter_nothing (λ z. same_node z.node a.node && same_label z.input a.input) h.arcs (λ z c.
        not-true _ (Contains-from_filter (λ b. not (same_node b.node a.node && same_label b.input a.input)) g.arcs z c).1)

    by_array : (b : Bool) → is_array (role_at t g a.node a.input) ≡ b → length (cond b g h).arcs < max_arcs → IsSound t (with_arc (cond b g h) a)
    by_array true e few = with_arc-sound s a src_there there types new few (λ single. absurd (true≢false (sym e ∙ single)))
    by_array false e few =
        with_arc-sound (without_arcs_into-sound s a.node a.input) a src_there there types_kept
        (any-filter (same_arc a) (λ z. not (same_node z.node a.node && same_label z.input a.input)) g.arcs new) few (λ single. none_into)

freed-below : (g : Graph) (a : ArcRec) (w : Role) (next : ℕ) → IsTrue (ids_below g next) → IsTrue (ids_below (with_arc (freed w g a) a) next)
freed-below g a w next below = by_array (is_array w)
  where
    by_array : (b : Bool) → IsTrue (ids_below (with_arc (cond b g (without_arcs_into g a.node a.input)) a) next)
    by_array true = below
    by_array false = below

pub arc_step-leads : {t : Tables} {p : Progress} → IsReady t p → (a : ArcRec) → IsTrue (has_node p.graph a.src.node) → IsTrue (has_node p.graph a.node) →
    IsTrue (agree (given (role_at t p.graph a.src.node a.src.label)) (taken (role_at t p.graph a.node a.input))) →
    LeadsOn t p (arc_step p a (role_at t p.graph a.node a.input))
arc_step-leads {t} {p} r a src_there there types = by_test (list_any (same_arc a) p.graph.arcs) refl
  where
    w : Role
    w = role_at t p.graph a.node a.input

    by_room : (b : Bool) → nat_lt (length (freed w p.graph a).arcs) max_arcs ≡ b → list_any (same_arc a) p.graph.arcs ≡ false →
        LeadsOn t p (cond b (Ok (changed_to p (with_arc (freed w p.graph a) a))) (Err code.TooManyArcs))
    by_room true e new =
        changed r (with_arc (freed w p.graph a) a) (freed_arc-sound r.sound a src_there there types new (ltb-true (length (freed w p.graph a).arcs) max_arcs e))
        (freed-below p.graph a w p.next r.below)
    by_room false e new = tt

    by_test : (b : Bool) → list_any (same_arc a) p.graph.arcs ≡ b → LeadsOn t p (cond b (Ok p) (connected p a (freed w p.graph a)))
    by_test true e = unchanged r
    by_test false e = by_room (nat_lt (length (freed w p.graph a).arcs) max_arcs) refl e

pub typed_arc-leads : (t : Tables) (p : Progress) (a : ArcRec) (w : Role) (gives takes : Option Ty) → (IsTrue (agree gives takes) → LeadsOn t p (arc_step p a w)) →
    LeadsOn t p (typed_arc p a w gives takes)
typed_arc-leads t p a w None takes h = tt
typed_arc-leads t p a w (Some x) None h = tt
typed_arc-leads t p a w (Some x) (Some y) h = by_test (same_ty x y) h
  where
    by_test : (b : Bool) → (b ≡ true → LeadsOn t p (arc_step p a w)) → LeadsOn t p (cond b (arc_step p a w) (Err code.ArcType))
    by_test true h = h refl
    by_test false h = tt
