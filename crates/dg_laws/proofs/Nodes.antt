-- The nodes of a graph whose ids rise: the node with an id, and how many ids aren't above one.
use Rattle.std.proofs.Common.{◌≡◌, ℕ, ◌<◌, ◌≤◌, ◌⊎◌, true, false, cond, ◌&&◌, ◌||◌, List, [], ◌∷◌, Option, Some, None, map, filter, find, length, is_some, Contains, IsTrue, nat_le, refl, sym, ap, inl, inr, arith, true≢false, eq-eqb, ne_eqb, leb-true, le-leb}
use Rattle.std.proofs.lemmas.Bool.{and_parts, lt-leb}
use Rattle.dg_base.specs.declared.ids.NodeId.{NodeId}
use Rattle.dg_base.specs.declared.ids.ArcRec.{ArcRec}
use Rattle.dg_base.specs.declared.graph.Node.{Node}
use Rattle.dg_base.specs.Same.{same_node}
use Rattle.dg_base.specs.Tables.{Tables}
use Rattle.dg_base.specs.Graph.{Graph, node_at, has_node}
use Rattle.dg_base.specs.Order.{rises, is_node_among}
use Rattle.dg_base.specs.Sound.{IsSound, IsLinked, origin_fits, node_fits, arc_fits}
use Rattle.dg_laws.proofs.Members.{Contains-cases, Contains-none, Contains-map, find_gives, list_all_at, list_all_from}
use Rattle.dg_laws.proofs.Filters.{length_filter_le, filter_fewer}
use Rattle.dg_laws.proofs.Among.{same-swap}
use Rattle.dg_laws.proofs.Rising.{above_first, rises-rest}
use Rattle.dg_laws.proofs.Ids.{same_node-is, nodes_tell}

node_fits-origin : (t : Tables) (g : Graph) (x : Node) → node_fits t g x ≡ true → origin_fits g x.id x.origin ≡ true
node_fits-origin t g x h = (and_parts _ _ (and_parts _ _ (and_parts _ _ h).0).1).0

arc_fits-there : (t : Tables) (g : Graph) (a : ArcRec) → arc_fits t g a ≡ true → (has_node g a.src.node && has_node g a.node) ≡ true
arc_fits-there t g a h = (and_parts _ _ (and_parts _ _ h).0).0

pub IsLinked-from_sound : {t : Tables} {g : Graph} → IsSound t g → IsLinked g
IsLinked-from_sound {t} {g} s = record {
  ids_rise = s.ids_rise;
  origins_fit = list_all_from (λ x. origin_fits g x.id x.origin) g.nodes (λ x c. node_fits-origin t g x (list_all_at (node_fits t g) g.nodes x s.nodes_fit c));
  arcs_there = list_all_from (λ a. has_node g a.src.node && has_node g a.node) g.arcs (λ a c. arc_fits-there t g a (list_all_at (arc_fits t g) g.arcs a s.arcs_fit c));
}

-- ---- the node with an id

pub find_rising : (xs : List Node) (x : Node) → IsTrue (rises (map (λ z. z.id.0) xs)) → Contains xs x → find (λ z. same_node z.id x.id) xs ≡ Some x
find_rising [] x h c = Contains-none x c
find_rising (y ∷ ys) x h c =
    elim (Contains-cases y ys x c) [
      | inl is ↦
          let same : same_node y.id x.id ≡ true = eq-eqb y.id.0 x.id.0 (ap (λ (z : Node). z.id.0) is) in
          rw same (ap (λ (z : Node). Some z) is)
      | inr rest ↦
          let below : y.id.0 < x.id.0 = above_first y.id.0 (map (λ z. z.id.0) ys) x.id.0 h (Contains-map (λ (z : Node). z.id.0) ys x rest) in
          let other : same_node y.id x.id ≡ false = ne_eqb y.id.0 x.id.0 (λ e. omega (arith, below, e)) in
          rw other (find_rising ys x (rises-rest y.id.0 (map (λ z. z.id.0) ys) h) rest)
    ]

pub node_at-in : (g : Graph) (n : NodeId) (x : Node) → node_at g n ≡ Some x → Contains g.nodes x
node_at-in g n x e = (find_gives (λ z. same_node z.id n) g.nodes x e).0

pub node_at-id : (g : Graph) (n : NodeId) (x : Node) → node_at g n ≡ Some x → x.id ≡ n
node_at-id g n x e = same_node-is x.id n (find_gives (λ z. same_node z.id n) g.nodes x e).1

pub node_at-member : {g : Graph} → IsLinked g → (x : Node) → Contains g.nodes x → node_at g x.id ≡ Some x
node_at-member {g} l x c = find_rising g.nodes x l.ids_rise c

pub has_node-at : (g : Graph) (n : NodeId) (x : Node) → node_at g n ≡ Some x → IsTrue (has_node g n)
has_node-at g n x e = ap is_some e

pub has_node-member : {g : Graph} → IsLinked g → (x : Node) → Contains g.nodes x → IsTrue (has_node g x.id)
has_node-member {g} l x c = has_node-at g x.id x (node_at-member l x c)

cases_option : {X : Type 0} (o : Option X) → ((x : X) × (o ≡ Some x)) ⊎ (o ≡ None)
cases_option None = inr refl
cases_option (Some x) = inl (x, refl)

-- the node with an id, or that there is none
pub node_at-cases : (g : Graph) (n : NodeId) → ((x : Node) × (node_at g n ≡ Some x)) ⊎ (node_at g n ≡ None)
node_at-cases g n = cases_option (node_at g n)

some_there : {X : Type 0} (o : Option X) → IsTrue (is_some o) → (x : X) × (o ≡ Some x)
some_there None h = absurd (true≢false (sym h))
some_there (Some x) h = (x, refl)

pub node_at-there : (g : Graph) (n : NodeId) → IsTrue (has_node g n) → (x : Node) × (node_at g n ≡ Some x)
node_at-there g n h = some_there (node_at g n) h

none_absent : {X : Type 0} (o : Option X) → is_some o ≡ false → o ≡ None
none_absent None h = refl
none_absent (Some x) h = absurd (true≢false h)

pub node_at-absent : (g : Graph) (n : NodeId) → has_node g n ≡ false → node_at g n ≡ None
node_at-absent g n h = none_absent (node_at g n) h

-- ---- the ids of all nodes

abbrev pub ids_of : Graph → List NodeId
ids_of g = map (λ x. x.id) g.nodes

pub numbers : (xs : List Node) → map (λ m. m.0) (map (λ x. x.id) xs) ≡ map (λ x. x.id.0) xs
numbers [] = refl
numbers (x ∷ xs) = ap (λ (z : List ℕ). x.id.0 ∷ z) (numbers xs)

among_ids : (xs : List Node) (n : NodeId) → is_node_among (map (λ x. x.id) xs) n ≡ is_some (find (λ z. same_node z.id n) xs)
among_ids [] n = refl
among_ids (x ∷ xs) n =
    let rest = among_ids xs n in
    rw (same-swap nodes_tell n x.id) (
    elim (same_node x.id n) as (λ b. (b || is_node_among (map (λ z. z.id) xs) n) ≡ is_some (cond b (Some x) (find (λ z. same_node z.id n) xs))) [ true ↦ refl | false ↦ rest ])

-- a node is there just where its id is among the ids
pub has_node-among : (g : Graph) (n : NodeId) → is_node_among (map (λ x. x.id) g.nodes) n ≡ has_node g n
has_node-among g n = among_ids g.nodes n

-- ---- how many ids aren't above one

unfoldable pub rank : Graph → NodeId → ℕ
rank g n = length (filter (λ x. nat_le x.id.0 n.0) g.nodes)

pub rank-le-length : (g : Graph) (n : NodeId) → rank g n ≤ length g.nodes
unfolding rank
rank-le-length g n = length_filter_le (λ x. nat_le x.id.0 n.0) g.nodes

at_most_more : (a m n : ℕ) → m < n → nat_le a m ≡ true → nat_le a n ≡ true
at_most_more a m n lt h = let le : a ≤ m = leb-true a m h in le-leb a n (omega arith)

pub rank-lt-rank : (g : Graph) (m n : NodeId) → m.0 < n.0 → IsTrue (has_node g n) → rank g m < rank g n
unfolding rank
rank-lt-rank g m n lt there =
    let x = node_at-there g n there in
    let is : x.0.id.0 ≡ n.0 = ap (λ (z : NodeId). z.0) (node_at-id g n x.0 x.1) in
    filter_fewer (λ z. nat_le z.id.0 m.0) (λ z. nat_le z.id.0 n.0) (λ z. at_most_more z.id.0 m.0 n.0 lt) g.nodes x.0 (node_at-in g n x.0 x.1)
    (lt-leb x.0.id.0 m.0 (omega (arith, is, lt))) (le-leb x.0.id.0 n.0 (omega (arith, is)))

pub rank-positive : (g : Graph) (n : NodeId) → IsTrue (has_node g n) → 0 < rank g n
unfolding rank
rank-positive g n there =
    let x = node_at-there g n there in
    let is : x.0.id.0 ≡ n.0 = ap (λ (z : NodeId). z.0) (node_at-id g n x.0 x.1) in
    let more = filter_fewer (λ (z : Node). false) (λ z. nat_le z.id.0 n.0) (λ z fails. absurd (true≢false (sym fails))) g.nodes x.0 (node_at-in g n x.0 x.1)
    refl (le-leb x.0.id.0 n.0 (omega (arith, is))) in
    omega (arith, more)
