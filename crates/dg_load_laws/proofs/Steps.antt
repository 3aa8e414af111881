-- Each step that names what was made, with what fits there, is refused by nothing but a limit.
use Rattle.std.proofs.Common.{◌≡◌, ◌≢◌, ◌⊎◌, ◌+◌, Bool, true, false, not, cond, ◌&&◌, List, [], ◌∷◌, ◌++◌, Option, Some, None, Ok, Err, length, Contains, nat_le, nat_lt, refl, sym, ap, ◌∙◌, subst, inl, inr, append-nil, arith}
use Rattle.std.proofs.lemmas.Bool.{and_parts, cases_Bool}
use Rattle.std.proofs.lemmas.List.Elements.{Contains-append_left, Contains-append_right, Contains-push_cases}
use Rattle.dg_base.specs.declared.ids.NodeId.{NodeId}
use Rattle.dg_base.specs.declared.ids.Label.{Label}
use Rattle.dg_base.specs.declared.ids.Kind.{Kind}
use Rattle.dg_base.specs.declared.ids.ArcRec.{ArcRec}
use Rattle.dg_base.specs.declared.ids.Endpoint.{Endpoint}
use Rattle.dg_base.specs.declared.datum.Datum.{Datum}
use Rattle.dg_base.specs.declared.graph.Node.{Node}
use Rattle.dg_base.specs.declared.graph.Origin.TheVariants as origin
use Rattle.dg_base.specs.declared.schema.Ty.{Ty}
use Rattle.dg_base.specs.declared.schema.Role.{Role}
use Rattle.dg_base.specs.declared.schema.Role.TheVariants as role
use Rattle.dg_base.specs.declared.step.NodeRef.{NodeRef}
use Rattle.dg_base.specs.declared.step.TxCode.TheVariants as code
use Rattle.dg_base.specs.declared.step.Step.TheVariants as step
use Rattle.dg_base.specs.Same.{same_node, same_label, same_arc}
use Rattle.dg_base.specs.Role.{given, taken, is_array, cascades, is_prop_named}
use Rattle.dg_base.specs.Tables.{Tables}
use Rattle.dg_base.specs.Graph.{Graph, override_in, origin_of, origin_at}
use Rattle.dg_base.specs.Chain.{kind_of}
use Rattle.dg_base.specs.Rule.{is_open_label}
use Rattle.dg_base.specs.Sound.{max_nodes, max_arcs, may_be_set, role_by, role_at, agree}
use Rattle.dg_base.specs.Changes.{plain_node, with_node, with_value, is_arc, with_arc, without_arcs_into}
use Rattle.dg_base.specs.Progress.{Progress, changed_to, IsReady}
use Rattle.dg_base.specs.Populate.{populate}
use Rattle.dg_base.specs.Steps.{make_step, set_by, is_open_kind, freed, arc_step, typed_arc, populated, step_of}
use Rattle.dg_laws.proofs.Members.{Contains-filter, Contains-from_filter, Contains-head, list_any_gives}
use Rattle.dg_laws.proofs.Ids.{same_node-is, same_label-is}
use Rattle.dg_laws.proofs.Ends.{same_end-is}
use Rattle.dg_laws.proofs.SoundParts.{IsSound-arc, below-there}
use Rattle.dg_laws.proofs.SoundNodes.{with_node-new}
use Rattle.dg_laws.proofs.SoundValues.{KeepsNode, edited, edited-keeps, valued-keeps, marked-keeps}
use Rattle.dg_laws.proofs.SoundKept.{edited-override_in}
use Rattle.dg_load_laws.proofs.Outcomes.{Leads, Leads-then, Leads-weaker}
use Rattle.dg_load_laws.proofs.Growth.{Grows, Grows-none, Leaves, Leaves-from, Leaves-grown, IsElsewhere, with_node-grows, populate-grows}
use Rattle.dg_load_laws.proofs.Naming.{Names, node_named-is}

-- ---- Make

-- what it leads to: a plain node more, into which no arc goes yet
pub record Makes (p : Progress) (k : Kind) (q : Progress) : Type 0 where
  pub grows : Grows (record { 0 = p.next } ∷ []) p q
  pub at : origin_at q.graph (record { 0 = p.next }) ≡ Some (origin.Plain k)
  pub no_arcs : (a : ArcRec) → Contains q.graph.arcs a → a.node ≢ (record { 0 = p.next })

pub make-leads : {t : Tables} {p : Progress} → IsReady t p → (k : Kind) → Leads (Makes p k) (make_step p k)
make-leads {t} {p} ready k = by_test (nat_le p.next max_nodes)
  where
    n : NodeId
    n = record { 0 = p.next }

    by_test : (b : Bool) → Leads (Makes p k) (cond b (Ok (record { graph = with_node p.graph (plain_node p.next k); next = p.next + 1; made = p.made ++ n ∷ [] })) (Err code.TooManyNodes))
    by_test true = record {
      grows = with_node-grows p (plain_node p.next k) (p.next + 1) (n ∷ []);
      at = ap origin_of (with_node-new p.graph (plain_node p.next k) ready.below);
      no_arcs = λ a c is.
          let lt = below-there p.graph p.next ready.below a.node (IsSound-arc ready.sound a c).there in
          let number : a.node.0 ≡ p.next = ap (λ (z : NodeId). z.0) is in
          absurd (omega (arith, lt, number));
    }
    by_test false = tt

-- ---- Set, Mark

edited-grows : {f : Node → Node} → KeepsNode f → (p : Progress) → Grows [] p (changed_to p (edited f p.graph))
edited-grows k p = record {
  made = sym (append-nil p.made);
  keeps = edited-keeps k p.graph;
  overs = λ r o n e. edited-override_in k p.graph r o ∙ e;
  still = refl;
}

set_by-grows : (p : Progress) (n : NodeId) (l : Label) (v : Datum) (opens : Bool) (w : Role) → may_be_set opens l v w ≡ true → Leads (Grows [] p) (set_by p n l v opens w)
set_by-grows p n l v opens (role.Property ty) fits = rw fits (edited-grows (valued-keeps n l v) p)
set_by-grows p n l v opens role.Nothing fits = by_tests opens (is_open_label l) (is_prop_named l v) fits
  where
    by_tests : (a b c : Bool) → (a && (b && c)) ≡ true → Leads (Grows [] p) (cond (a && b) (cond c (Ok (changed_to p (with_value p.graph n l v))) (Err code.ValueType)) (Err code.NotProperty))
    by_tests true true true e = edited-grows (valued-keeps n l v) p
    by_tests true true false e = let no : false ≡ true = e in cc
    by_tests true false c e = let no : false ≡ true = e in cc
    by_tests false b c e = let no : false ≡ true = e in cc
set_by-grows p n l v opens (role.Output ty cached) fits = let no : false ≡ true = fits in cc
set_by-grows p n l v opens (role.Input ty array cascade substitute) fits = let no : false ≡ true = fits in cc

pub set-grows : (t : Tables) {p : Progress} {r : NodeRef} {kind : Kind} → Names p r kind → (l : Label) (v : Datum) → may_be_set (t.is_open kind) l v (t.role kind l) ≡ true →
    Leads (Grows [] p) (step_of t p (step.Set r l v))
set-grows t {p} {r} {kind} n l v fits =
    rw (node_named-is n) (
    set_by-grows p n.node l v (is_open_kind t (kind_of p.graph n.node)) (role_at t p.graph n.node l)
    (ap (λ k. may_be_set (is_open_kind t k) l v (role_by t k l)) n.is ∙ fits))

pub mark-grows : (t : Tables) {p : Progress} {r : NodeRef} {kind : Kind} → Names p r kind → (d : Bool) → Leads (Grows [] p) (step_of t p (step.Mark r d))
mark-grows t {p} {r} n d = rw (node_named-is n) (edited-grows (marked-keeps n.node d) p)

-- ---- Connect

-- an array keeps what comes into it, and a single input has none yet
abbrev pub HasRoom : Graph → NodeId → Label → Role → Type 0
HasRoom g n i w = (is_array w ≡ true) ⊎ ((a : ArcRec) → Contains g.arcs a → a.node ≢ n)

arc-stays : (g : Graph) (a : ArcRec) (w : Role) → HasRoom g a.node a.input w → (b : ArcRec) → Contains g.arcs b → Contains (with_arc (freed w g a) a).arcs b
arc-stays g a w room b c = Contains-append_left (freed w g a).arcs (a ∷ []) b (elim room [
  | inl array ↦ subst (λ x. Contains (cond x g (without_arcs_into g a.node a.input)).arcs b) (sym array) c
  | inr none ↦ by_array (is_array w) none
])
  where
    stays : ((z : ArcRec) → Contains g.arcs z → z.node ≢ a.node) → not (same_node b.node a.node && same_label b.input a.input) ≡ true
    stays none =
        elim (cases_Bool (same_node b.node a.node && same_label b.input a.input)) [
          | inl here ↦ absurd (none b c (same_node-is b.node a.node (and_parts _ _ here).0))
          | inr other ↦ ap not other
        ]

    by_array : (x : Bool) → ((z : ArcRec) → Contains g.arcs z → z.node ≢ a.node) → Contains (cond x g (without_arcs_into g a.node a.input)).arcs b
    by_array true none = c
    by_array false none = Contains-filter (λ z. not (same_node z.node a.node && same_label z.input a.input)) g.arcs b c (stays none)

freed-arcs : (g : Graph) (a b : ArcRec) (w : Role) → Contains (freed w g a).arcs b → Contains g.arcs b
freed-arcs g a b w c = by_array (is_array w) c
  where
    by_array : (x : Bool) → Contains (cond x g (without_arcs_into g a.node a.input)).arcs b → Contains g.arcs b
    by_array true h = h
    by_array false h = (Contains-from_filter (λ z. not (same_node z.node a.node && same_label z.input a.input)) g.arcs b h).0

freed-nodes : (g : Graph) (a : ArcRec) (w : Role) → (freed w g a).nodes ≡ g.nodes
freed-nodes g a w = elim (is_array w) as (λ b. (cond b g (without_arcs_into g a.node a.input)).nodes ≡ g.nodes) [ true ↦ refl | false ↦ refl ]

-- the arc is there, and nothing is lost
abbrev Joins : Kind → Progress → ArcRec → Progress → Type 0
Joins k p a q = Leaves k [] p q × Contains q.graph.arcs a

arc-joins : (k : Kind) (p : Progress) (a : ArcRec) (w : Role) → HasRoom p.graph a.node a.input w → IsElsewhere k p.graph a.node → Joins k p a (changed_to p (with_arc (freed w p.graph a) a))
arc-joins k p a w room other = (
  record {
    made = sym (append-nil p.made);
    keeps = record { origins = λ n there. ap (λ xs. origin_at (record { nodes = xs; arcs = [] }) n) (freed-nodes p.graph a w) };
    overs = λ r o n e. ap (λ xs. override_in (record { nodes = xs; arcs = [] }) r o) (freed-nodes p.graph a w) ∙ e;
    arcs = arc-stays p.graph a w room;
    news = λ b c.
        elim (Contains-push_cases (freed w p.graph a).arcs a b c) [
          | inl old ↦ inl (freed-arcs p.graph a b w old)
          | inr new ↦ inr (subst (λ (z : ArcRec). IsElsewhere k p.graph z.node) new other)
        ];
  },
  Contains-append_right (freed w p.graph a).arcs (a ∷ []) a (Contains-head a []),
)

same_arc-is : (a b : ArcRec) → same_arc a b ≡ true → a ≡ b
same_arc-is a b h =
    let one = and_parts _ _ h in
    let two = and_parts _ _ one.1 in
    ap (λ (s : Endpoint). record { src = s; node = a.node; input = a.input }) (same_end-is a.src b.src one.0)
    ∙ ap (λ (n : NodeId). record { src = b.src; node = n; input = a.input }) (same_node-is a.node b.node two.0)
    ∙ ap (λ (i : Label). record { src = b.src; node = b.node; input = i }) (same_label-is a.input b.input two.1)

arc_step-joins : (k : Kind) (p : Progress) (a : ArcRec) (w : Role) → HasRoom p.graph a.node a.input w → IsElsewhere k p.graph a.node → Leads (Joins k p a) (arc_step p a w)
arc_step-joins k p a w room other = by_tests (is_arc p.graph a) (nat_lt (length (freed w p.graph a).arcs) max_arcs) refl
  where
    by_tests : (b c : Bool) → is_arc p.graph a ≡ b → Leads (Joins k p a) (cond b (Ok p) (cond c (Ok (changed_to p (with_arc (freed w p.graph a) a))) (Err code.TooManyArcs)))
    by_tests true c e =
        let x = list_any_gives (same_arc a) p.graph.arcs e in
        (Leaves-from k (Grows-none p), subst (λ (z : ArcRec). Contains p.graph.arcs z) (sym (same_arc-is a x.0 x.2)) x.1)
    by_tests false true e = arc-joins k p a w room other
    by_tests false false e = tt

typed_arc-joins : (k : Kind) (p : Progress) (a : ArcRec) (w : Role) (gives takes : Option Ty) → agree gives takes ≡ true → HasRoom p.graph a.node a.input w → IsElsewhere k p.graph a.node →
    Leads (Joins k p a) (typed_arc p a w gives takes)
typed_arc-joins k p a w None takes e room other = let no : false ≡ true = e in cc
typed_arc-joins k p a w (Some gives) None e room other = let no : false ≡ true = e in cc
typed_arc-joins k p a w (Some gives) (Some takes) e room other = rw e (arc_step-joins k p a w room other)

populated-joins : (t : Tables) (k : Kind) (p : Progress) (a b : ArcRec) (populates : Bool) (q : Progress) → Joins k p b q → Leads (Joins k p b) (populated t a populates q)
populated-joins t k p a b true q h =
    Leads-weaker (Grows [] q) (Joins k p b) (populate t q a.node a.input) (populate-grows t q a.node a.input)
    (λ z g. (Leaves-grown h.0 g, subst (λ (as_ : List ArcRec). Contains as_ b) (sym g.still) h.1))
populated-joins t k p a b false q h = h

pub connect-joins : (t : Tables) (k : Kind) {p : Progress} {r s : NodeRef} {from to : Kind} → (n : Names p r from) → (m : Names p s to) → (l i : Label) →
    agree (given (t.role from l)) (taken (t.role to i)) ≡ true → HasRoom p.graph m.node i (t.role to i) → IsElsewhere k p.graph m.node →
    Leads (λ q. Leaves k [] p q × Contains q.graph.arcs (record { src = record { node = n.node; label = l }; node = m.node; input = i })) (step_of t p (step.Connect r l s i))
connect-joins t k {p} {r} {s} {from} {to} n m l i e room other =
    rw (node_named-is n) (rw (node_named-is m) (
    Leads-then (Joins k p a) (Joins k p a) (typed_arc p a input gives (taken input)) (populated t a populates)
    (typed_arc-joins k p a input gives (taken input)
    (ap (λ z. agree (given (role_by t z l)) (taken input)) n.is ∙ ap (λ z. agree (given (t.role from l)) (taken (role_by t z i))) m.is ∙ e)
    (subst (λ z. HasRoom p.graph m.node i (role_by t z i)) (sym m.is) room) other)
    (λ q h. populated-joins t k p a a populates q h)))
  where
    a : ArcRec
    a = record { src = record { node = n.node; label = l }; node = m.node; input = i }

    input : Role
    input = role_at t p.graph m.node i

    gives : Option Ty
    gives = given (role_at t p.graph n.node l)

    populates : Bool
    populates = cascades input && not (is_arc p.graph a)
