-- The nodes that a step makes have the ids in a row from the next id on.
use Rattle.std.proofs.Common.{◌≡◌, ℕ, zero, suc, ◌+◌, ◌-◌, ◌<◌, ◌≤◌, Bool, true, false, not, cond, List, [], ◌∷◌, ◌++◌, Option, Some, None, Result, Ok, Err, map, filter, Contains, IsTrue, nat_le, refl, sym, ap, ◌∙◌, arith, append_assoc, append-nil, le-leb, leb-true, inl, inr, subst}
use Rattle.std.proofs.lemmas.Bool.{cases_Bool}
use Rattle.std.proofs.lemmas.List.{map-append}
use Rattle.std.proofs.lemmas.List.Elements.{filter-append}
use Rattle.dg_base.specs.declared.ids.NodeId.{NodeId}
use Rattle.dg_base.specs.declared.ids.Label.{Label}
use Rattle.dg_base.specs.declared.ids.Endpoint.{Endpoint}
use Rattle.dg_base.specs.declared.graph.Node.{Node}
use Rattle.dg_base.specs.declared.graph.Origin.{Origin}
use Rattle.dg_base.specs.declared.graph.Origin.TheVariants as origin
use Rattle.dg_base.specs.declared.step.TxCode.{TxCode}
use Rattle.dg_base.specs.declared.step.TxCode.TheVariants as code
use Rattle.dg_base.specs.Same.{same_node}
use Rattle.dg_base.specs.Tables.{Tables}
use Rattle.dg_base.specs.Graph.{Graph, node_at, explicit_sources}
use Rattle.dg_base.specs.Chain.{heirs}
use Rattle.dg_base.specs.Sources.{sources}
use Rattle.dg_base.specs.Sound.{ids_below, max_nodes}
use Rattle.dg_base.specs.Refusal.{and_then}
use Rattle.dg_base.specs.Changes.{with_node, over_node}
use Rattle.dg_base.specs.Progress.{Progress}
use Rattle.dg_base.specs.Populate.{override_all, lacking, populate_over, populate_inherited, populate_heir, populate_all, populate}
use Rattle.dg_base.specs.Touched.{nodes_from}
use Rattle.dg_laws.proofs.Members.{filter_nothing, Contains-from_map}
use Rattle.dg_laws.proofs.SoundParts.{below-member}
use Rattle.dg_tx.specs.Ids.{ids_from, ids_between}
use Rattle.dg_tx.proofs.IdRows.{ids_from-append}

abbrev pub ids_in : Graph → List NodeId
ids_in g = map (λ x. x.id) g.nodes

-- so many nodes were added, with the ids from the next one on
pub record Grows (p q : Progress) : Type 0 where
  pub count : ℕ
  pub ids : ids_in q.graph ≡ ids_in p.graph ++ ids_from count p.next
  pub next : q.next ≡ p.next + count

pub Grows-none : (p : Progress) → Grows p p
Grows-none p = record { count = 0; ids = sym (append-nil (ids_in p.graph)); next = omega arith }

pub Grows-then : {p q r : Progress} → Grows p q → Grows q r → Grows p r
Grows-then {p} {q} {r} a b = record {
  count = a.count + b.count;
  ids =
      b.ids
      ∙ ap (λ (ns : List NodeId). ns ++ ids_from b.count q.next) a.ids
      ∙ append_assoc (ids_in p.graph) (ids_from a.count p.next) (ids_from b.count q.next)
      ∙ ap (λ (ns : List NodeId). ids_in p.graph ++ ns) (ids_from-append a.count b.count (a.count + b.count) p.next q.next (sym a.next) refl);
  next = (let one = a.next in let two = b.next in omega (arith, one, two));
}

-- one node more
pub Grows-one : (p : Progress) (x : Node) (made : List NodeId) → x.id ≡ record { 0 = p.next } → Grows p (record { graph = with_node p.graph x; next = p.next + 1; made = made })
Grows-one p x made is = record {
  count = 1;
  ids = map-append (λ (z : Node). z.id) p.graph.nodes (x ∷ []) ∙ ap (λ (n : NodeId). ids_in p.graph ++ n ∷ []) is;
  next = refl;
}

ok_is : (r : Result Progress TxCode) (p q : Progress) → r ≡ Ok p → r ≡ Ok q → p ≡ q
ok_is r p q e f = cc

stays : (r : Result Progress TxCode) (p q : Progress) → r ≡ Ok p → r ≡ Ok q → Grows p q
stays r p q e f = subst (Grows p) (ok_is r p q e f) (Grows-none p)

pub override_all-grows : (ns : List NodeId) (root : NodeId) (p q : Progress) → override_all root ns p ≡ Ok q → Grows p q
override_all-grows [] root p q e = stays (override_all root [] p) p q refl e
override_all-grows (n ∷ ns) root p q e = by_test (nat_le p.next max_nodes) e (override_all-grows ns root (record { graph = with_node p.graph (over_node p.next root n); next = p.next + 1; made = p.made }) q)
  where
    one : Progress
    one = record { graph = with_node p.graph (over_node p.next root n); next = p.next + 1; made = p.made }

    by_test : (b : Bool) → cond b (override_all root ns one) (Err code.TooManyNodes) ≡ Ok q → (override_all root ns one ≡ Ok q → Grows one q) → Grows p q
    by_test true f rest = Grows-then (Grows-one p (over_node p.next root n) p.made refl) (rest f)
    by_test false f rest = let nothing : ⊥ = cc in absurd nothing

pub populate_heir-grows : (t : Tables) (i : Label) (h : NodeId) (p q : Progress) → populate_heir t p i h ≡ Ok q → Grows p q
populate_heir-grows t i h p q e = by_node (node_at p.graph h) (explicit_sources p.graph h i) e
  where
    by_origin : (w : Origin) → populate_over t p i w ≡ Ok q → Grows p q
    by_origin (origin.Plain kind) f = stays (populate_over t p i (origin.Plain kind)) p q refl f
    by_origin (origin.Over root original) f = override_all-grows (lacking t p.graph root (sources p.graph original i)) root p q f

    by_node : (o : Option Node) (ss : List Endpoint) → populate_inherited t p i o ss ≡ Ok q → Grows p q
    by_node None ss f = stays (populate_inherited t p i None ss) p q refl f
    by_node (Some x) [] f = by_origin x.origin f
    by_node (Some x) (s ∷ ss) f = stays (populate_inherited t p i (Some x) (s ∷ ss)) p q refl f

pub populate_all-grows : (hs : List NodeId) (t : Tables) (i : Label) (p q : Progress) → populate_all t i hs p ≡ Ok q → Grows p q
populate_all-grows [] t i p q e = stays (populate_all t i [] p) p q refl e
populate_all-grows (h ∷ hs) t i p q e = by_result (populate_heir t p i h) refl e (λ z. populate_all-grows hs t i z q)
  where
    by_result : (r : Result Progress TxCode) → populate_heir t p i h ≡ r → and_then r (populate_all t i hs) ≡ Ok q → ((z : Progress) → populate_all t i hs z ≡ Ok q → Grows z q) → Grows p q
    by_result (Ok z) is f rest = Grows-then (populate_heir-grows t i h p z is) (rest z f)
    by_result (Err c) is f rest = let nothing : ⊥ = cc in absurd nothing

pub populate-grows : (t : Tables) (n : NodeId) (i : Label) (p q : Progress) → populate t p n i ≡ Ok q → Grows p q
populate-grows t n i p q e = populate_all-grows (filter (λ h. not (same_node h n)) (heirs p.graph n)) t i p q e

-- the nodes of a graph from an id on
pub nodes_from-none : (g : Graph) (next : ℕ) → IsTrue (ids_below g next) → nodes_from next g ≡ []
nodes_from-none g next below = filter_nothing (λ (n : NodeId). nat_le next n.0) (ids_in g) none
  where
    none : (n : NodeId) → Contains (ids_in g) n → nat_le next n.0 ≡ false
    none n c =
        let x = Contains-from_map (λ (z : Node). z.id) g.nodes n c in
        let lt : x.0.id.0 < next = below-member g next below x.0 x.1 in
        elim (cases_Bool (nat_le next n.0)) [
          | inl le ↦
              let same : x.0.id.0 ≡ n.0 = ap (λ (z : NodeId). z.0) x.2 in
              let upto : next ≤ n.0 = leb-true next n.0 le in
              absurd (omega (arith, lt, same, upto))
          | inr gt ↦ gt
        ]

all_from : (k first next : ℕ) → first ≤ next → filter (λ (n : NodeId). nat_le first n.0) (ids_from k next) ≡ ids_from k next
all_from zero first next le = refl
all_from (suc k) first next le =
    let here : nat_le first next ≡ true = le-leb first next le in
    let rest = all_from k first (next + 1) (omega arith) in
    ap (λ b. cond b (record { 0 = next } ∷ filter (λ (n : NodeId). nat_le first n.0) (ids_from k (next + 1))) (filter (λ (n : NodeId). nat_le first n.0) (ids_from k (next + 1)))) here
    ∙ ap (λ (ns : List NodeId). record { 0 = next } ∷ ns) rest

pub nodes_from-grown : {p q : Progress} → IsTrue (ids_below p.graph p.next) → Grows p q → nodes_from p.next q.graph ≡ ids_between p.next q.next
nodes_from-grown {p} {q} below grows =
    let count : grows.count ≡ q.next - p.next = (let n = grows.next in omega (arith, n)) in
    ap (filter (λ (n : NodeId). nat_le p.next n.0)) grows.ids
    ∙ filter-append (λ (n : NodeId). nat_le p.next n.0) (ids_in p.graph) (ids_from grows.count p.next)
    ∙ ap (λ (ns : List NodeId). ns ++ filter (λ (n : NodeId). nat_le p.next n.0) (ids_from grows.count p.next)) (nodes_from-none p.graph p.next below)
    ∙ all_from grows.count p.next p.next (omega arith)
    ∙ ap (λ (k : ℕ). ids_from k p.next) count

pub Grows-later : {p q : Progress} → Grows p q → p.next ≤ q.next
Grows-later grows = let n = grows.next in omega (arith, n)
