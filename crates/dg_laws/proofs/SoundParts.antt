-- What a sound graph says of each node and each arc, and what stays where the origins of nodes stay.
use Rattle.std.proofs.Common.{◌≡◌, ℕ, ◌<◌, ◌≤◌, Bool, true, false, ◌&&◌, ◌||◌, Option, Some, None, map, filter, length, Contains, IsTrue, nat_lt, nat_le, refl, sym, ap, ◌∙◌, subst, arith, ltb-true, leb-true, le-leb, lt-ltb}
use Rattle.std.proofs.lemmas.Bool.{and_parts, and_from}
use Rattle.std.specs.List.{list_all}
use Rattle.dg_base.specs.declared.ids.NodeId.{NodeId}
use Rattle.dg_base.specs.declared.ids.Label.{Label}
use Rattle.dg_base.specs.declared.ids.Kind.{Kind}
use Rattle.dg_base.specs.declared.ids.ArcRec.{ArcRec}
use Rattle.dg_base.specs.declared.graph.Node.{Node}
use Rattle.dg_base.specs.declared.graph.Origin.{Origin}
use Rattle.dg_base.specs.declared.graph.Origin.TheVariants as origin
use Rattle.dg_base.specs.Order.{rises}
use Rattle.dg_base.specs.Role.{given, taken, is_array}
use Rattle.dg_base.specs.Tables.{Tables}
use Rattle.dg_base.specs.Graph.{Graph, empty, node_at, has_node, overrides, origin_of, origin_at, arcs_into}
use Rattle.dg_base.specs.Chain.{kind_of}
use Rattle.dg_base.specs.Sound.{IsSound, max_nodes, max_arcs, has_root, names_itself, origin_fits, is_only_override, value_fits, node_fits, role_by, role_at, agree, arc_fits, arcs_once, ids_below, IsLinked}
use Rattle.dg_laws.proofs.Members.{list_all_at, list_all_from}
use Rattle.dg_laws.proofs.Nodes.{node_at-there, node_at-in, node_at-id, has_node-at}
use Rattle.dg_laws.proofs.Chains.{IsOriginal, IsOriginal-fits, along_originals, kind-plain, kind-over}

-- ---- the parts

pub record FitsNode (t : Tables) (g : Graph) (x : Node) : Type 0 where
  pub id_low : 1 ≤ x.id.0
  pub id_high : x.id.0 ≤ max_nodes
  pub from : IsTrue (origin_fits g x.id x.origin)
  pub only : IsTrue (is_only_override g x.origin)
  pub labels_rise : IsTrue (rises (map (λ f. f.label.0) x.own))
  pub values_fit : IsTrue (list_all (value_fits t (kind_of g x.id)) x.own)

pub record FitsArc (t : Tables) (g : Graph) (a : ArcRec) : Type 0 where
  pub src_there : IsTrue (has_node g a.src.node)
  pub there : IsTrue (has_node g a.node)
  pub types_agree : IsTrue (agree (given (role_at t g a.src.node a.src.label)) (taken (role_at t g a.node a.input)))
  pub few : IsTrue (is_array (role_at t g a.node a.input) || nat_le (length (arcs_into g a.node a.input)) 1)

node_parts : (t : Tables) (g : Graph) (x : Node) → IsTrue (node_fits t g x) → FitsNode t g x
node_parts t g x h =
    let both = and_parts _ _ h in
    let first = and_parts _ _ both.0 in
    let ids = and_parts (nat_le 1 x.id.0) (nat_le x.id.0 max_nodes) first.0 in
    let from = and_parts (origin_fits g x.id x.origin) (is_only_override g x.origin) first.1 in
    let own = and_parts (rises (map (λ f. f.label.0) x.own)) (list_all (value_fits t (kind_of g x.id)) x.own) both.1 in
    record { id_low = leb-true 1 x.id.0 ids.0; id_high = leb-true x.id.0 max_nodes ids.1; from = from.0; only = from.1; labels_rise = own.0; values_fit = own.1 }

node_whole : (t : Tables) (g : Graph) (x : Node) → FitsNode t g x → IsTrue (node_fits t g x)
node_whole t g x f =
    and_from _ _ (and_from _ _ (and_from _ _ (le-leb 1 x.id.0 f.id_low) (le-leb x.id.0 max_nodes f.id_high)) (and_from _ _ f.from f.only)) (and_from _ _ f.labels_rise f.values_fit)

arc_parts : (t : Tables) (g : Graph) (a : ArcRec) → IsTrue (arc_fits t g a) → FitsArc t g a
arc_parts t g a h =
    let both = and_parts _ _ h in
    let first = and_parts _ _ both.0 in
    let ends = and_parts (has_node g a.src.node) (has_node g a.node) first.0 in
    record { src_there = ends.0; there = ends.1; types_agree = first.1; few = both.1 }

arc_whole : (t : Tables) (g : Graph) (a : ArcRec) → FitsArc t g a → IsTrue (arc_fits t g a)
arc_whole t g a f = and_from _ _ (and_from _ _ (and_from _ _ f.src_there f.there) f.types_agree) f.few

pub IsSound-node : {t : Tables} {g : Graph} → IsSound t g → (x : Node) → Contains g.nodes x → FitsNode t g x
IsSound-node {t} {g} s x c = node_parts t g x (list_all_at (node_fits t g) g.nodes x s.nodes_fit c)

pub IsSound-arc : {t : Tables} {g : Graph} → IsSound t g → (a : ArcRec) → Contains g.arcs a → FitsArc t g a
IsSound-arc {t} {g} s a c = arc_parts t g a (list_all_at (arc_fits t g) g.arcs a s.arcs_fit c)

pub IsSound-from : (t : Tables) (g : Graph) → IsTrue (rises (map (λ x. x.id.0) g.nodes)) → ((x : Node) → Contains g.nodes x → FitsNode t g x) →
    IsTrue (arcs_once g.arcs) → ((a : ArcRec) → Contains g.arcs a → FitsArc t g a) → length g.arcs ≤ max_arcs → IsSound t g
IsSound-from t g rise nodes once arcs few = record {
  ids_rise = rise;
  nodes_fit = list_all_from (node_fits t g) g.nodes (λ x c. node_whole t g x (nodes x c));
  arcs_differ = once;
  arcs_fit = list_all_from (arc_fits t g) g.arcs (λ a c. arc_whole t g a (arcs a c));
  arcs_few = few;
}

pub IsSound-empty : (t : Tables) → IsSound t empty
IsSound-empty t = record { ids_rise = refl; nodes_fit = refl; arcs_differ = refl; arcs_fit = refl; arcs_few = omega arith }

pub IsLinked-from : (g : Graph) → IsTrue (rises (map (λ x. x.id.0) g.nodes)) → ((x : Node) → Contains g.nodes x → IsTrue (origin_fits g x.id x.origin)) →
    ((a : ArcRec) → Contains g.arcs a → IsTrue (has_node g a.src.node) × IsTrue (has_node g a.node)) → IsLinked g
IsLinked-from g rise origins ends = record {
  ids_rise = rise;
  origins_fit = list_all_from (λ x. origin_fits g x.id x.origin) g.nodes origins;
  arcs_there = list_all_from (λ a. has_node g a.src.node && has_node g a.node) g.arcs (λ a c. let both = ends a c in and_from _ _ both.0 both.1);
}

-- ---- origins

pub origin_fits-over : (g : Graph) (n root original : NodeId) → IsOriginal g n root original → IsTrue (origin_fits g n (origin.Over root original))
origin_fits-over g n root original is =
    and_from _ _ (and_from _ _ is.there (lt-ltb original.0 n.0 is.before)) (and_from _ _ (le-leb root.0 n.0 is.root_upto) is.root_own)

-- an origin fits in another graph where the original is there and the root still names itself
pub origin_fits-moved : (g h : Graph) (n : NodeId) (w : Origin) → IsTrue (origin_fits g n w) →
    ((root original : NodeId) → w ≡ origin.Over root original → IsOriginal g n root original → IsTrue (has_node h original) × IsTrue (names_itself root (node_at h root))) →
    IsTrue (origin_fits h n w)
origin_fits-moved g h n (origin.Plain kind) fits moves = refl
origin_fits-moved g h n (origin.Over root original) fits moves =
    let is = IsOriginal-fits g n root original fits in
    let m = moves root original refl is in
    origin_fits-over h n root original (record { there = m.0; before = is.before; root_upto = is.root_upto; root_own = m.1 })

pub is_only-moved : (g h : Graph) (w : Origin) → IsTrue (is_only_override g w) →
    ((root original : NodeId) → w ≡ origin.Over root original → length (filter (λ x. overrides root original x.origin) h.nodes) ≤ length (filter (λ x. overrides root original x.origin) g.nodes)) →
    IsTrue (is_only_override h w)
is_only-moved g h (origin.Plain kind) only fewer = refl
is_only-moved g h (origin.Over root original) only fewer =
    let few = fewer root original refl in
    let one : length (filter (λ x. overrides root original x.origin) g.nodes) ≤ 1 = leb-true (length (filter (λ x. overrides root original x.origin) g.nodes)) 1 only in
    le-leb (length (filter (λ x. overrides root original x.origin) h.nodes)) 1 (omega (arith, few, one))

-- ---- graphs in which nodes keep their origins

pub record Keeps (g h : Graph) : Type 0 where
  pub origins : (n : NodeId) → IsTrue (has_node g n) → origin_at h n ≡ origin_at g n

origin_of-some : (o : Option Node) (w : Origin) → origin_of o ≡ Some w → (x : Node) × (o ≡ Some x) × (x.origin ≡ w)
origin_of-some None w h = let no : ⊥ = cc in absurd no
origin_of-some (Some x) w h = (x, refl, cc)

pub Keeps-at : {g h : Graph} → Keeps g h → (n : NodeId) (x : Node) → node_at g n ≡ Some x → (y : Node) × (node_at h n ≡ Some y) × (y.origin ≡ x.origin)
Keeps-at {g} {h} k n x e = origin_of-some (node_at h n) x.origin (k.origins n (has_node-at g n x e) ∙ ap origin_of e)

pub Keeps-there : {g h : Graph} → Keeps g h → (n : NodeId) → IsTrue (has_node g n) → IsTrue (has_node h n)
Keeps-there {g} {h} k n there =
    let x = node_at-there g n there in
    let y = Keeps-at k n x.0 x.1 in
    has_node-at h n y.0 y.1

pub Keeps-names : {g h : Graph} → Keeps g h → (root : NodeId) → IsTrue (has_node g root) → IsTrue (names_itself root (node_at g root)) → IsTrue (names_itself root (node_at h root))
Keeps-names {g} {h} k root there names =
    let x = node_at-there g root there in
    let y = Keeps-at k root x.0 x.1 in
    let own : has_root root x.0.origin ≡ true = sym (ap (names_itself root) x.1) ∙ names in
    ap (names_itself root) y.1 ∙ ap (has_root root) y.2 ∙ own

pub kind_of-kept : {g h : Graph} → IsLinked g → IsLinked h → Keeps g h → (n : NodeId) → IsTrue (has_node g n) → kind_of h n ≡ kind_of g n
kind_of-kept {g} {h} l m k n there = along_originals l (λ z. kind_of h z ≡ kind_of g z) step n there
  where
    by_origin : (n : NodeId) (x y : Node) (w : Origin) → node_at g n ≡ Some x → node_at h n ≡ Some y → x.origin ≡ w → y.origin ≡ w →
        ((root original : NodeId) → x.origin ≡ origin.Over root original → kind_of h original ≡ kind_of g original) → kind_of h n ≡ kind_of g n
    by_origin n x y (origin.Plain kind) e f o p above = kind-plain m n y kind f p ∙ sym (kind-plain l n x kind e o)
    by_origin n x y (origin.Over root original) e f o p above =
        kind-over m n y root original f p ∙ above root original o ∙ sym (kind-over l n x root original e o)

    step : (n : NodeId) (x : Node) → node_at g n ≡ Some x → ((root original : NodeId) → x.origin ≡ origin.Over root original → kind_of h original ≡ kind_of g original) →
        kind_of h n ≡ kind_of g n
    step n x e above = let y = Keeps-at k n x e in by_origin n x y.0 x.origin e y.1 refl y.2 above

pub role_at-kept : {g h : Graph} → IsLinked g → IsLinked h → Keeps g h → (t : Tables) (n : NodeId) (l : Label) → IsTrue (has_node g n) → role_at t h n l ≡ role_at t g n l
role_at-kept {g} {h} a b k t n l there = ap (λ (o : Option Kind). role_by t o l) (kind_of-kept a b k n there)

-- ---- nodes and arcs that fit in another graph

pub FitsNode-moved : {t : Tables} {g h : Graph} {x : Node} → FitsNode t g x → IsTrue (origin_fits h x.id x.origin) → IsTrue (is_only_override h x.origin) →
    kind_of h x.id ≡ kind_of g x.id → FitsNode t h x
FitsNode-moved {t} {g} {h} {x} f from only kind = record {
  id_low = f.id_low;
  id_high = f.id_high;
  from = from;
  only = only;
  labels_rise = f.labels_rise;
  values_fit = ap (λ (o : Option Kind). list_all (value_fits t o) x.own) kind ∙ f.values_fit;
}

pub FitsArc-moved : {t : Tables} {g h : Graph} {a : ArcRec} → FitsArc t g a → IsTrue (has_node h a.src.node) → IsTrue (has_node h a.node) →
    kind_of h a.src.node ≡ kind_of g a.src.node → kind_of h a.node ≡ kind_of g a.node →
    length (arcs_into h a.node a.input) ≤ length (arcs_into g a.node a.input) → FitsArc t h a
FitsArc-moved {t} {g} {h} {a} f src_there there src_kind kind fewer = record {
  src_there = src_there;
  there = there;
  types_agree =
      ap (λ (o : Option Kind). agree (given (role_by t o a.src.label)) (taken (role_at t h a.node a.input))) src_kind
      ∙ ap (λ (o : Option Kind). agree (given (role_at t g a.src.node a.src.label)) (taken (role_by t o a.input))) kind
      ∙ f.types_agree;
  few =
      ap (λ (o : Option Kind). is_array (role_by t o a.input) || nat_le (length (arcs_into h a.node a.input)) 1) kind
      ∙ by_array (is_array (role_at t g a.node a.input)) f.few;
}
  where
    by_array : (b : Bool) → (b || nat_le (length (arcs_into g a.node a.input)) 1) ≡ true → (b || nat_le (length (arcs_into h a.node a.input)) 1) ≡ true
    by_array true e = refl
    by_array false e =
        let one : length (arcs_into g a.node a.input) ≤ 1 = leb-true (length (arcs_into g a.node a.input)) 1 e in
        le-leb (length (arcs_into h a.node a.input)) 1 (omega (arith, one, fewer))

-- ---- ids below one

pub below-member : (g : Graph) (next : ℕ) → IsTrue (ids_below g next) → (x : Node) → Contains g.nodes x → x.id.0 < next
below-member g next below x c = ltb-true x.id.0 next (list_all_at (λ z. nat_lt z.id.0 next) g.nodes x below c)

pub below-there : (g : Graph) (next : ℕ) → IsTrue (ids_below g next) → (n : NodeId) → IsTrue (has_node g n) → n.0 < next
below-there g next below n there =
    let x = node_at-there g n there in
    subst (λ (z : NodeId). z.0 < next) (node_at-id g n x.0 x.1) (below-member g next below x.0 (node_at-in g n x.0 x.1))

pub below-from : (g : Graph) (next : ℕ) → ((x : Node) → Contains g.nodes x → x.id.0 < next) → IsTrue (ids_below g next)
below-from g next h = list_all_from (λ x. nat_lt x.id.0 next) g.nodes (λ x c. lt-ltb x.id.0 next (h x c))

pub below-absent : (g : Graph) (n : NodeId) → IsTrue (ids_below g n.0) → has_node g n ≡ false
below-absent g n below = by_test (has_node g n) refl
  where
    by_test : (b : Bool) → has_node g n ≡ b → b ≡ false
    by_test true e = let lt = below-there g n.0 below n e in absurd (omega (arith, lt))
    by_test false e = refl
