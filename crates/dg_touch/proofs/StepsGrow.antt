-- The steps that append nodes: Make, Override and populating.
use Rattle.std.proofs.Common.{◌≡◌, ◌+◌, ◌≤◌, Bool, true, false, cond, not, List, [], ◌∷◌, ◌++◌, Option, Some, None, Result, Ok, Err, filter, nat_le, inl, inr, refl, sym, ap, ◌∙◌, arith, append-nil, append_assoc}
use Rattle.std.proofs.lemmas.List.Elements.{Contains-append_cases}
use Rattle.std.specs.Prelude.{IfOk}
use Rattle.dg_base.specs.declared.ids.NodeId.{NodeId}
use Rattle.dg_base.specs.declared.ids.Label.{Label}
use Rattle.dg_base.specs.declared.ids.Kind.{Kind}
use Rattle.dg_base.specs.declared.ids.Endpoint.{Endpoint}
use Rattle.dg_base.specs.declared.graph.Node.{Node}
use Rattle.dg_base.specs.declared.graph.Origin.{Origin}
use Rattle.dg_base.specs.declared.graph.Origin.TheVariants as origin
use Rattle.dg_base.specs.declared.step.TxCode.{TxCode}
use Rattle.dg_base.specs.declared.step.TxCode.TheVariants as code
use Rattle.dg_base.specs.Same.{same_node}
use Rattle.dg_base.specs.Tables.{Tables, AreTables}
use Rattle.dg_base.specs.Graph.{Graph, node_at, explicit_sources}
use Rattle.dg_base.specs.Chain.{heirs}
use Rattle.dg_base.specs.Sources.{sources}
use Rattle.dg_base.specs.Sound.{max_nodes}
use Rattle.dg_base.specs.Owned.{cascade_tree}
use Rattle.dg_base.specs.Changes.{plain_node, with_node, over_node}
use Rattle.dg_base.specs.Progress.{Progress, with_made, IsReady}
use Rattle.dg_base.specs.Populate.{override_all, lacking, populate_over, populate_inherited, populate_heir, populate_all, populate}
use Rattle.dg_base.specs.Steps.{make_step, override_step}
use Rattle.dg_base.specs.Touched.{touched_nodes, nodes_from}
use Rattle.dg_laws.proofs.Members.{Contains-none, Contains-cases}
use Rattle.dg_laws.proofs.Nodes.{IsLinked-from_sound}
use Rattle.dg_touch.specs.Laws.{RulesAgreeOutside}
use Rattle.dg_touch.proofs.Results.{and_then-ok}
use Rattle.dg_touch.proofs.NodesNew.{IsGrown, rules-grown}

pub record Grows (p q : Progress) : Type 0 where
  pub grown : IsGrown p.graph q.graph p.next
  pub later : p.next ≤ q.next

abbrev pub IfGrows : Progress → Result Progress TxCode → Type 0
IfGrows p r = IfOk r (Grows p)

grows-not : (p : Progress) → Grows p p
grows-not p = record {
  grown = record { more = []; nodes = sym (append-nil p.graph.nodes); arcs = refl; new = λ x c. Contains-none x c };
  later = omega arith;
}

grows-then : {p q z : Progress} → Grows p q → Grows q z → Grows p z
grows-then {p} {q} {z} a b = record {
  grown = record {
    more = a.grown.more ++ b.grown.more;
    nodes = b.grown.nodes ∙ ap (λ (xs : List Node). xs ++ b.grown.more) a.grown.nodes ∙ append_assoc p.graph.nodes a.grown.more b.grown.more;
    arcs = b.grown.arcs ∙ a.grown.arcs;
    new = λ x c. elim (Contains-append_cases a.grown.more b.grown.more x c) [
      | inl first ↦ a.grown.new x first
      | inr second ↦ let high = b.grown.new x second in let le = a.later in omega (arith, high, le)
    ];
  };
  later = (let x = a.later in let y = b.later in omega (arith, x, y));
}

grows-then_if : {p q : Progress} (r : Result Progress TxCode) → Grows p q → IfGrows q r → IfGrows p r
grows-then_if (Ok z) a h = grows-then a h
grows-then_if (Err c) a h = tt

one_more : (p q : Progress) (x : Node) → x.id.0 ≡ p.next → q.graph ≡ with_node p.graph x → q.next ≡ p.next + 1 → Grows p q
one_more p q x id is next = record {
  grown = record {
    more = x ∷ [];
    nodes = ap (λ (g : Graph). g.nodes) is;
    arcs = ap (λ (g : Graph). g.arcs) is;
    new = λ y c. elim (Contains-cases x [] y c) [
      | inl same ↦ let number : y.id.0 ≡ x.id.0 = ap (λ (z : Node). z.id.0) (sym same) in omega (arith, number, id)
      | inr none ↦ Contains-none y none
    ];
  };
  later = omega (arith, next);
}

-- ---- the steps

pub make_step-grows : (p : Progress) (k : Kind) → IfGrows p (make_step p k)
make_step-grows p k = by_test (nat_le p.next max_nodes)
  where
    by_test : (b : Bool) →
        IfGrows p (cond b (Ok (record { graph = with_node p.graph (plain_node p.next k); next = p.next + 1; made = p.made ++ record { 0 = p.next } ∷ [] })) (Err code.TooManyNodes))
    by_test true = one_more p _ (plain_node p.next k) refl refl refl
    by_test false = tt

override_all-grows : (ns : List NodeId) (root : NodeId) (p : Progress) → IfGrows p (override_all root ns p)
override_all-grows [] root p = grows-not p
override_all-grows (n ∷ ns) root p =
    let q : Progress = record { graph = with_node p.graph (over_node p.next root n); next = p.next + 1; made = p.made } in
    by_test (nat_le p.next max_nodes) (override_all root ns q)
    (grows-then_if (override_all root ns q) (one_more p q (over_node p.next root n) refl refl refl) (override_all-grows ns root q))
  where
    by_test : (b : Bool) (rest : Result Progress TxCode) → IfGrows p rest → IfGrows p (cond b rest (Err code.TooManyNodes))
    by_test true rest h = h
    by_test false rest h = tt

pub override_step-grows : (t : Tables) (p : Progress) (target : Option NodeId) → IfGrows p (override_step t p target)
override_step-grows t p None = tt
override_step-grows t p (Some n) =
    let root : NodeId = record { 0 = p.next } in
    and_then-ok (Grows p) (override_all root (cascade_tree t p.graph n) p) (λ q. Ok (with_made q root)) (override_all-grows (cascade_tree t p.graph n) root p)
    (λ q a. record { grown = record { more = a.grown.more; nodes = a.grown.nodes; arcs = a.grown.arcs; new = a.grown.new }; later = a.later })

populate_heir-grows : (t : Tables) (p : Progress) (i : Label) (h : NodeId) → IfGrows p (populate_heir t p i h)
populate_heir-grows t p i h = by_node (node_at p.graph h) (explicit_sources p.graph h i)
  where
    by_origin : (w : Origin) → IfGrows p (populate_over t p i w)
    by_origin (origin.Plain kind) = grows-not p
    by_origin (origin.Over root original) = override_all-grows (lacking t p.graph root (sources p.graph original i)) root p

    by_node : (o : Option Node) (ss : List Endpoint) → IfGrows p (populate_inherited t p i o ss)
    by_node None ss = grows-not p
    by_node (Some x) [] = by_origin x.origin
    by_node (Some x) (s ∷ ss) = grows-not p

populate_all-grows : (hs : List NodeId) (t : Tables) (i : Label) (p : Progress) → IfGrows p (populate_all t i hs p)
populate_all-grows [] t i p = grows-not p
populate_all-grows (h ∷ hs) t i p =
    and_then-ok (Grows p) (populate_heir t p i h) (populate_all t i hs) (populate_heir-grows t p i h)
    (λ q a. grows-then_if (populate_all t i hs q) a (populate_all-grows hs t i q))

pub populate-grows : (t : Tables) (p : Progress) (n : NodeId) (i : Label) → IfGrows p (populate t p n i)
populate-grows t p n i = populate_all-grows (filter (λ h. not (same_node h n)) (heirs p.graph n)) t i p

-- what the new nodes touch holds what changed
pub rules-new : {t : Tables} {p q : Progress} → AreTables t → IsReady t p → IsReady t q → Grows p q →
    RulesAgreeOutside t p.graph q.graph (touched_nodes t q.graph (nodes_from p.next q.graph))
rules-new {t} {p} {q} laws before after w =
    rules-grown w.grown before.below (IsLinked-from_sound after.sound) (IsLinked-from_sound before.sound) laws
