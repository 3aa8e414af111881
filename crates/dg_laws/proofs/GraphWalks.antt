-- The walks of a linked graph: a node's cascade tree, and what goes when it is deleted. A walk may
-- begin at a node that isn't there.
use Rattle.std.proofs.Common.{◌≡◌, ◌≤◌, Bool, true, false, not, ◌||◌, List, [], ◌∷◌, ◌++◌, Option, Some, None, map, length, Contains, IsTrue, refl, sym, ap, ◌∙◌, subst, inl, inr, arith, true≢false}
use Rattle.std.proofs.lemmas.Bool.{and_parts, and_from, or_cases, or_parts, or_from, or_left, or_right, not-true, not_from_false}
use Rattle.std.proofs.lemmas.List.{length-map}
use Rattle.dg_base.specs.declared.ids.NodeId.{NodeId}
use Rattle.dg_base.specs.declared.ids.Label.{Label}
use Rattle.dg_base.specs.declared.ids.Endpoint.{Endpoint}
use Rattle.dg_base.specs.declared.graph.Node.{Node}
use Rattle.dg_base.specs.declared.graph.Origin.{Origin}
use Rattle.dg_base.specs.declared.graph.Origin.TheVariants as origin
use Rattle.dg_base.specs.Same.{same_node}
use Rattle.dg_base.specs.Tables.{Tables}
use Rattle.dg_base.specs.Graph.{Graph, node_at, has_node, override_in, explicit_sources}
use Rattle.dg_base.specs.Chain.{chain, holds, kind_of}
use Rattle.dg_base.specs.Sources.{sources}
use Rattle.dg_base.specs.Order.{rises, is_node_among, nodes_once}
use Rattle.dg_base.specs.Walk.{walk_within}
use Rattle.dg_base.specs.Owned.{cascading_inputs, owned_by_origin, owned_over, nodes_or, owned_through, owned, enough_levels, cascade_tree, is_over, overs, taken_with, doomed}
use Rattle.dg_base.specs.Sound.{IsLinked}
use Rattle.dg_laws.proofs.Members.{Contains-none, Contains-filter, Contains-from_filter, Contains-map, Contains-from_map, Contains-from_flat_map, Contains-from_filter_map}
use Rattle.dg_laws.proofs.Among.{same-swap, among_from_Contains, Contains_from_among, among-append, among-push}
use Rattle.dg_laws.proofs.Orders.{ordered-rise, ordered-among}
use Rattle.dg_laws.proofs.Ids.{same_node-is, same_node-itself, nodes_tell, nodes_rank, rises-from_rise_by}
use Rattle.dg_laws.proofs.Walks.{IsClosed, IsWalk, IsKept, Begins, unmet, unmet-le-length, walk-is_walk, walk-least, walk-keeps, walk-inside, walks-begin}
use Rattle.dg_laws.proofs.Nodes.{node_at-in, node_at-id, has_node-member, ids_of, has_node-among}
use Rattle.dg_laws.proofs.Chains.{along_originals, holds-from, holds-over, holds-plain}
use Rattle.dg_laws.proofs.Sources.{override_in-there, explicit_sources-ends}

-- a node, and the nodes of the graph
abbrev pub ids_from : Graph → NodeId → List NodeId
ids_from g n = n ∷ ids_of g

pub unmet-ids_from : (g : Graph) (n : NodeId) (met : List NodeId) → unmet same_node (ids_from g n) met ≤ enough_levels g
unmet-ids_from g n met =
    let le = unmet-le-length nodes_tell (ids_from g n) met in
    let long : length (ids_of g) ≡ length g.nodes = length-map g.nodes (λ x. x.id) in
    omega (arith, le, long)

pub ids_from-there : (g : Graph) (n m : NodeId) → IsTrue (has_node g m) → IsTrue (is_node_among (ids_from g n) m)
ids_from-there g n m there = or_right (same_node m n) _ (has_node-among g m ∙ there)

pub ids_from-itself : (g : Graph) (n : NodeId) → IsTrue (is_node_among (ids_from g n) n)
ids_from-itself g n = or_left _ (is_node_among (ids_of g) n) (same_node-itself n)

-- what is among them is that node or is there
ids_from-cases : (g : Graph) (n m : NodeId) → IsTrue (is_node_among (ids_from g n) m) → IsTrue (has_node g n) → IsTrue (has_node g m)
ids_from-cases g n m h there =
    elim (or_cases (same_node m n) (is_node_among (ids_of g) m) h) [
      | inl same ↦ subst (λ (z : NodeId). IsTrue (has_node g z)) (sym (same_node-is m n same)) there
      | inr other ↦ sym (has_node-among g m) ∙ other
    ]

-- ---- each node stands once

pub nodes_once-push : (ns : List NodeId) (n : NodeId) → IsTrue (nodes_once ns) → is_node_among ns n ≡ false → IsTrue (nodes_once (ns ++ n ∷ []))
nodes_once-push [] n h new = refl
nodes_once-push (m ∷ ns) n h new =
    let both = and_parts (not (is_node_among ns m)) (nodes_once ns) h in
    let apart = or_parts (same_node n m) (is_node_among ns n) new in
    let here : is_node_among (ns ++ n ∷ []) m ≡ false =
    among-push nodes_tell ns n m ∙ or_from (is_node_among ns m) (same_node m n) (not-true _ both.0) (same-swap nodes_tell m n ∙ apart.0)
    in
    and_from _ _ (not_from_false _ here) (nodes_once-push ns n both.1 apart.1)

-- ---- what a node owns, and its override nodes, are nodes of the graph

module _ {g : Graph} (l : IsLinked g) where
  owned_by_origin-there : (i : Label) (w : Origin) (m : NodeId) → Contains (owned_by_origin g i w) m → IsTrue (has_node g m)
  owned_by_origin-there i (origin.Plain kind) m c = Contains-none m c
  owned_by_origin-there i (origin.Over root original) m c =
      let s = Contains-from_filter_map (λ z. override_in g root z.node) (sources g original i) m c in
      override_in-there l root s.0.node m s.2

  owned_over-there : (i : Label) (o : Option Node) (m : NodeId) → Contains (owned_over g i o) m → IsTrue (has_node g m)
  owned_over-there i None m c = Contains-none m c
  owned_over-there i (Some x) m c = owned_by_origin-there i x.origin m c

  nodes_or-there : (ss : List Endpoint) (others : List NodeId) (m : NodeId) → ((s : Endpoint) → Contains ss s → IsTrue (has_node g s.node)) →
      (Contains others m → IsTrue (has_node g m)) → Contains (nodes_or ss others) m → IsTrue (has_node g m)
  nodes_or-there [] others m a b c = b c
  nodes_or-there (s ∷ ss) others m a b c =
      let e = Contains-from_map (λ (z : Endpoint). z.node) (s ∷ ss) m c in
      subst (λ (z : NodeId). IsTrue (has_node g z)) e.2 (a e.0 e.1)

  pub owned-there : (t : Tables) (n m : NodeId) → IsTrue (is_node_among (owned t g n) m) → IsTrue (has_node g m)
  owned-there t n m h =
      let i = Contains-from_flat_map (owned_through g n) (cascading_inputs t (kind_of g n)) m (Contains_from_among nodes_tell (owned t g n) m h) in
      nodes_or-there (explicit_sources g n i.0) (owned_over g i.0 (node_at g n)) m (explicit_sources-ends l n i.0) (owned_over-there i.0 (node_at g n) m) i.2

  pub overs-there : (n m : NodeId) → IsTrue (is_node_among (overs g n) m) → IsTrue (has_node g m)
  overs-there n m h =
      let x = Contains-from_map (λ (z : Node). z.id) _ m (Contains_from_among nodes_tell (overs g n) m h) in
      subst (λ (z : NodeId). IsTrue (has_node g z)) x.2 (has_node-member l x.0 (Contains-from_filter (λ z. is_over n z.origin) g.nodes x.0 x.1).0)

  -- an override node is among those of its original
  pub overs-has : (m : NodeId) (x : Node) (root original : NodeId) → node_at g m ≡ Some x → x.origin ≡ origin.Over root original → IsTrue (is_node_among (overs g original) m)
  overs-has m x root original e o =
      let over : is_over original x.origin ≡ true = ap (is_over original) o ∙ same_node-itself original in
      let listed = Contains-map (λ (z : Node). z.id) _ x (Contains-filter (λ z. is_over original z.origin) g.nodes x (node_at-in g m x e) over) in
      subst (λ (z : NodeId). IsTrue (is_node_among (overs g original) z)) (node_at-id g m x e) (among_from_Contains nodes_tell (overs g original) x.id listed)

  pub taken_with-there : (t : Tables) (n m : NodeId) → IsTrue (is_node_among (taken_with t g n) m) → IsTrue (has_node g m)
  taken_with-there t n m h =
      elim (or_cases (is_node_among (overs g n) m) (is_node_among (owned t g n) m) (sym (among-append nodes_tell (overs g n) (owned t g n) m) ∙ h)) [
        | inl over ↦ overs-there n m over
        | inr own ↦ owned-there t n m own
      ]

  -- what a walk from a node can meet: the node, and those of the graph
  pub IsClosed-owned : (t : Tables) (n : NodeId) → IsClosed same_node (owned t g) (ids_from g n)
  IsClosed-owned t n = record { stays = λ k m inside h. ids_from-there g n m (owned-there t k m h) }

  pub IsClosed-taken_with : (t : Tables) (n : NodeId) → IsClosed same_node (taken_with t g) (ids_from g n)
  IsClosed-taken_with t n = record { stays = λ k m inside h. ids_from-there g n m (taken_with-there t k m h) }

  -- ---- a cascade tree

  pub cascade_tree-is_walk : (t : Tables) (n : NodeId) → IsWalk same_node (owned t g) [] (n ∷ []) (cascade_tree t g n)
  cascade_tree-is_walk t n =
      walk-is_walk nodes_tell (owned t g) (ids_from g n) (IsClosed-owned t n) (enough_levels g) [] n (ids_from-itself g n) (unmet-ids_from g n [])

  pub cascade_tree-there : (t : Tables) (n m : NodeId) → IsTrue (has_node g n) → IsTrue (is_node_among (cascade_tree t g n) m) → IsTrue (has_node g m)
  cascade_tree-there t n m there h =
      ids_from-cases g n m
      (walk-inside nodes_tell (owned t g) (ids_from g n) (IsClosed-owned t n) (enough_levels g) [] n (λ k none. absurd (true≢false (sym none))) (ids_from-itself g n) m h) there

  pub cascade_tree-itself : (t : Tables) (n : NodeId) → IsTrue (is_node_among (cascade_tree t g n) n)
  cascade_tree-itself t n = (cascade_tree-is_walk t n).reaches n (or_left _ false (same_node-itself n))

  pub cascade_tree-closed : (t : Tables) (n m x : NodeId) → IsTrue (is_node_among (cascade_tree t g n) m) → IsTrue (is_node_among (owned t g m) x) →
      IsTrue (is_node_among (cascade_tree t g n) x)
  cascade_tree-closed t n m x h follows = (cascade_tree-is_walk t n).closed m x h refl follows

pub cascade_tree-once : (t : Tables) (g : Graph) (n : NodeId) → IsTrue (nodes_once (cascade_tree t g n))
cascade_tree-once t g n = walk-keeps nodes_tell (λ ns. IsTrue (nodes_once ns)) nodes_once-push (owned t g) (enough_levels g) [] n refl

pub cascade_tree-least : (t : Tables) (g : Graph) (p : NodeId → Bool) → IsKept same_node (owned t g) p → (n m : NodeId) → p n ≡ true → IsTrue (is_node_among (cascade_tree t g n) m) → p m ≡ true
cascade_tree-least t g p kept n m first h = walk-least nodes_tell (owned t g) p kept (enough_levels g) [] n (λ k none. absurd (true≢false (sym none))) first m h

-- the tree begins with its node
pub cascade_tree-first : (t : Tables) (g : Graph) (n : NodeId) → Begins (n ∷ []) (cascade_tree t g n)
cascade_tree-first t g n = walks-begin nodes_tell (owned t g) (length g.nodes) (n ∷ []) (owned t g n)

-- ---- what a deletion takes

abbrev pub all_taken : Tables → Graph → NodeId → List NodeId
all_taken t g n = walk_within same_node (enough_levels g) (taken_with t g) [] n

pub doomed-among : (t : Tables) (g : Graph) (n m : NodeId) → is_node_among (doomed t g n) m ≡ is_node_among (all_taken t g n) m
doomed-among t g n m = ordered-among nodes_rank (all_taken t g n) m

pub doomed-rise : (t : Tables) (g : Graph) (n : NodeId) → IsTrue (rises (map (λ m. m.0) (doomed t g n)))
doomed-rise t g n = rises-from_rise_by (doomed t g n) (ordered-rise nodes_rank (all_taken t g n))

-- a test that the node passes, and the override nodes and owned nodes of each that passes, holds of all that goes
pub doomed-least : (t : Tables) (g : Graph) (p : NodeId → Bool) → IsKept same_node (taken_with t g) p → (n m : NodeId) → p n ≡ true → IsTrue (is_node_among (doomed t g n) m) → p m ≡ true
doomed-least t g p kept n m first h =
    walk-least nodes_tell (taken_with t g) p kept (enough_levels g) [] n (λ k none. absurd (true≢false (sym none))) first m (sym (doomed-among t g n m) ∙ h)

module _ {g : Graph} (l : IsLinked g) where
  pub all_taken-is_walk : (t : Tables) (n : NodeId) → IsWalk same_node (taken_with t g) [] (n ∷ []) (all_taken t g n)
  all_taken-is_walk t n =
      walk-is_walk nodes_tell (taken_with t g) (ids_from g n) (IsClosed-taken_with l t n) (enough_levels g) [] n (ids_from-itself g n) (unmet-ids_from g n [])

  pub doomed-there : (t : Tables) (n m : NodeId) → IsTrue (has_node g n) → IsTrue (is_node_among (doomed t g n) m) → IsTrue (has_node g m)
  doomed-there t n m there h =
      ids_from-cases g n m
      (walk-inside nodes_tell (taken_with t g) (ids_from g n) (IsClosed-taken_with l t n) (enough_levels g) [] n (λ k none. absurd (true≢false (sym none))) (ids_from-itself g n) m
      (sym (doomed-among t g n m) ∙ h)) there

  pub doomed-itself : (t : Tables) (n : NodeId) → IsTrue (is_node_among (doomed t g n) n)
  doomed-itself t n = doomed-among t g n n ∙ (all_taken-is_walk t n).reaches n (or_left _ false (same_node-itself n))

  doomed-closed : (t : Tables) (n m x : NodeId) → IsTrue (is_node_among (doomed t g n) m) → IsTrue (is_node_among (taken_with t g m) x) → IsTrue (is_node_among (doomed t g n) x)
  doomed-closed t n m x h follows = doomed-among t g n x ∙ (all_taken-is_walk t n).closed m x (sym (doomed-among t g n m) ∙ h) refl follows

  pub doomed-overs : (t : Tables) (n m x : NodeId) → IsTrue (is_node_among (doomed t g n) m) → IsTrue (is_node_among (overs g m) x) → IsTrue (is_node_among (doomed t g n) x)
  doomed-overs t n m x h over = doomed-closed t n m x h (among-append nodes_tell (overs g m) (owned t g m) x ∙ or_left _ _ over)

  pub doomed-owned : (t : Tables) (n m x : NodeId) → IsTrue (is_node_among (doomed t g n) m) → IsTrue (is_node_among (owned t g m) x) → IsTrue (is_node_among (doomed t g n) x)
  doomed-owned t n m x h own = doomed-closed t n m x h (among-append nodes_tell (overs g m) (owned t g m) x ∙ or_right _ _ own)

  -- with a node go all its heirs
  pub doomed-heirs : (t : Tables) (n m h : NodeId) → IsTrue (is_node_among (doomed t g n) m) → holds (chain g h) m ≡ true → IsTrue (is_node_among (doomed t g n) h)
  doomed-heirs t n m h goes held = along_originals l (λ k. holds (chain g k) m ≡ true → IsTrue (is_node_among (doomed t g n) k)) step h (holds-from g h m held) held
    where
      by_origin : (k : NodeId) (x : Node) (w : Origin) → node_at g k ≡ Some x → x.origin ≡ w →
          ((root original : NodeId) → x.origin ≡ origin.Over root original → holds (chain g original) m ≡ true → IsTrue (is_node_among (doomed t g n) original)) →
          holds (chain g k) m ≡ true → IsTrue (is_node_among (doomed t g n) k)
      by_origin k x (origin.Plain kind) e o above held =
          subst (λ (z : NodeId). IsTrue (is_node_among (doomed t g n) z)) (sym (same_node-is k m (sym (holds-plain l k x kind m e o) ∙ held))) goes
      by_origin k x (origin.Over root original) e o above held =
          elim (or_cases (same_node k m) (holds (chain g original) m) (sym (holds-over l k x root original m e o) ∙ held)) [
            | inl same ↦ subst (λ (z : NodeId). IsTrue (is_node_among (doomed t g n) z)) (sym (same_node-is k m same)) goes
            | inr later ↦ doomed-overs t n original k (above root original o later) (overs-has l k x root original e o)
          ]

      step : (k : NodeId) (x : Node) → node_at g k ≡ Some x →
          ((root original : NodeId) → x.origin ≡ origin.Over root original → holds (chain g original) m ≡ true → IsTrue (is_node_among (doomed t g n) original)) →
          holds (chain g k) m ≡ true → IsTrue (is_node_among (doomed t g n) k)
      step k x e above held = by_origin k x x.origin e refl above held

either_of : (a b : Bool) (P : Type 0) → (a ≡ true → P) → (b ≡ true → P) → (a || b) ≡ true → P
either_of true b P f h e = f refl
either_of false b P f h e = h e

-- what keeps to override nodes and to what is owned keeps to what a deletion takes
pub taken_kept : (g : Graph) (t : Tables) (p : NodeId → Bool) →
    ((m x : NodeId) → p m ≡ true → IsTrue (is_node_among (overs g m) x) → p x ≡ true) →
    ((m x : NodeId) → p m ≡ true → IsTrue (is_node_among (owned t g m) x) → p x ≡ true) → IsKept same_node (taken_with t g) p
taken_kept g t p over own m x pm h =
    either_of (is_node_among (overs g m) x) (is_node_among (owned t g m) x) (p x ≡ true) (over m x pm) (own m x pm) (sym (among-append nodes_tell (overs g m) (owned t g m) x) ∙ h)
