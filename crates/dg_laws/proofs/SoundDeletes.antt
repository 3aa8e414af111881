-- A sound graph is sound without some of its nodes, if with each of them go its override nodes.
use Rattle.std.proofs.Common.{◌≡◌, ℕ, Bool, true, false, not, cond, ◌&&◌, List, [], ◌∷◌, Some, None, filter, find, is_some, Contains, IsTrue, refl, sym, ap, ◌∙◌, inl, inr, arith, true≢false}
use Rattle.std.proofs.lemmas.Bool.{and_parts, not-true, cases_Bool}
use Rattle.dg_base.specs.declared.ids.NodeId.{NodeId}
use Rattle.dg_base.specs.declared.ids.ArcRec.{ArcRec}
use Rattle.dg_base.specs.declared.graph.Node.{Node}
use Rattle.dg_base.specs.declared.graph.Origin.TheVariants as origin
use Rattle.dg_base.specs.Same.{same_node, same_label}
use Rattle.dg_base.specs.Order.{is_node_among}
use Rattle.dg_base.specs.Tables.{Tables}
use Rattle.dg_base.specs.Graph.{Graph, node_at, has_node, overrides, origin_of}
use Rattle.dg_base.specs.Chain.{kind_of}
use Rattle.dg_base.specs.Sound.{IsSound, names_itself, origin_fits, ids_below, IsLinked}
use Rattle.dg_base.specs.Owned.{overs, doomed}
use Rattle.dg_base.specs.Changes.{stays, without_nodes}
use Rattle.dg_laws.proofs.Members.{Contains-from_filter}
use Rattle.dg_laws.proofs.Filters.{length_filter_le, filter_shorter}
use Rattle.dg_laws.proofs.Rising.{rises-filter}
use Rattle.dg_laws.proofs.Ids.{same_node-is}
use Rattle.dg_laws.proofs.Nodes.{IsLinked-from_sound, node_at-member, has_node-member}
use Rattle.dg_laws.proofs.GraphWalks.{overs-has, doomed-overs}
use Rattle.dg_laws.proofs.SoundParts.{FitsArc, IsSound-node, IsSound-arc, IsSound-from, IsLinked-from, origin_fits-moved, is_only-moved, Keeps, kind_of-kept, FitsNode-moved, FitsArc-moved, below-member, below-from}
use Rattle.dg_laws.proofs.SoundArcs.{arcs_once-filter}

-- with each node go its override nodes
pub record TakesOvers (g : Graph) (ns : List NodeId) : Type 0 where
  pub overs_go : (n m : NodeId) → IsTrue (is_node_among ns n) → IsTrue (is_node_among (overs g n) m) → IsTrue (is_node_among ns m)

module _ (g : Graph) (ns : List NodeId) where
  find_left : (xs : List Node) (n : NodeId) → is_node_among ns n ≡ false → find (λ z. same_node z.id n) (filter (λ x. not (is_node_among ns x.id)) xs) ≡ find (λ z. same_node z.id n) xs
  find_left [] n e = refl
  find_left (x ∷ xs) n e = by_tests (is_node_among ns x.id) (same_node x.id n) refl refl (find_left xs n e)
    where
      by_tests : (a b : Bool) → is_node_among ns x.id ≡ a → same_node x.id n ≡ b →
          find (λ z. same_node z.id n) (filter (λ y. not (is_node_among ns y.id)) xs) ≡ find (λ z. same_node z.id n) xs →
          find (λ z. same_node z.id n) (cond (not a) (x ∷ filter (λ y. not (is_node_among ns y.id)) xs) (filter (λ y. not (is_node_among ns y.id)) xs)) ≡
          cond b (Some x) (find (λ z. same_node z.id n) xs)
      by_tests true true a b rest = absurd (true≢false (sym a ∙ ap (is_node_among ns) (same_node-is x.id n b) ∙ e))
      by_tests true false a b rest = rest
      by_tests false true a b rest = ap (λ c. cond c (Some x) (find (λ z. same_node z.id n) (filter (λ y. not (is_node_among ns y.id)) xs))) b
      by_tests false false a b rest = ap (λ c. cond c (Some x) (find (λ z. same_node z.id n) (filter (λ y. not (is_node_among ns y.id)) xs))) b ∙ rest

  find_gone : (xs : List Node) (n : NodeId) → is_node_among ns n ≡ true → find (λ z. same_node z.id n) (filter (λ x. not (is_node_among ns x.id)) xs) ≡ None
  find_gone [] n e = refl
  find_gone (x ∷ xs) n e = by_tests (is_node_among ns x.id) (same_node x.id n) refl refl (find_gone xs n e)
    where
      by_tests : (a b : Bool) → is_node_among ns x.id ≡ a → same_node x.id n ≡ b →
          find (λ z. same_node z.id n) (filter (λ y. not (is_node_among ns y.id)) xs) ≡ None →
          find (λ z. same_node z.id n) (cond (not a) (x ∷ filter (λ y. not (is_node_among ns y.id)) xs) (filter (λ y. not (is_node_among ns y.id)) xs)) ≡ None
      by_tests true b a c rest = rest
      by_tests false true a b rest = absurd (true≢false (sym e ∙ ap (is_node_among ns) (sym (same_node-is x.id n b)) ∙ a))
      by_tests false false a b rest = ap (λ c. cond c (Some x) (find (λ z. same_node z.id n) (filter (λ y. not (is_node_among ns y.id)) xs))) b ∙ rest

  -- a node that isn't taken stays as it was, and one that is taken is gone
  pub without_nodes-stays : (n : NodeId) → is_node_among ns n ≡ false → node_at (without_nodes g ns) n ≡ node_at g n
  without_nodes-stays n e = find_left g.nodes n e

  pub without_nodes-gone : (n : NodeId) → IsTrue (is_node_among ns n) → node_at (without_nodes g ns) n ≡ None
  without_nodes-gone n e = find_gone g.nodes n e

  pub without_nodes-left : (n : NodeId) → IsTrue (has_node (without_nodes g ns) n) → is_node_among ns n ≡ false
  without_nodes-left n there =
      elim (cases_Bool (is_node_among ns n)) [
        | inl gone ↦ absurd (true≢false (sym there ∙ ap is_some (without_nodes-gone n gone)))
        | inr left ↦ left
      ]

  pub without_nodes-has : (n : NodeId) → IsTrue (has_node g n) → is_node_among ns n ≡ false → IsTrue (has_node (without_nodes g ns) n)
  without_nodes-has n there left = ap is_some (without_nodes-stays n left) ∙ there

  pub without_nodes-keeps : Keeps (without_nodes g ns) g
  without_nodes-keeps = record { origins = λ n there. ap origin_of (sym (without_nodes-stays n (without_nodes-left n there))) }

  pub without_nodes-below : (next : ℕ) → IsTrue (ids_below g next) → IsTrue (ids_below (without_nodes g ns) next)
  without_nodes-below next below = below-from (without_nodes g ns) next (λ x c. below-member g next below x (Contains-from_filter (λ z. not (is_node_among ns z.id)) g.nodes x c).0)

module _ {t : Tables} {g : Graph} (s : IsSound t g) {ns : List NodeId} (takes : TakesOvers g ns) where
  node_before : (x : Node) → Contains (without_nodes g ns).nodes x → Contains g.nodes x × (is_node_among ns x.id ≡ false)
  node_before x c = let both = Contains-from_filter (λ z. not (is_node_among ns z.id)) g.nodes x c in (both.0, not-true _ both.1)

  left_names : (root : NodeId) → IsTrue (names_itself root (node_at g root)) → IsTrue (names_itself root (node_at (without_nodes g ns) root))
  left_names root names =
      elim (cases_Bool (is_node_among ns root)) [
        | inl gone ↦ ap (names_itself root) (without_nodes-gone g ns root gone)
        | inr left ↦ ap (names_itself root) (without_nodes-stays g ns root left) ∙ names
      ]

  left_origin : (x : Node) → Contains (without_nodes g ns).nodes x → IsTrue (origin_fits (without_nodes g ns) x.id x.origin)
  left_origin x c =
      let before = node_before x c in
      origin_fits-moved g (without_nodes g ns) x.id x.origin (IsSound-node s x before.0).from (λ root original e is.
      (without_nodes-has g ns original is.there (left_original x root original before.0 before.1 e), left_names root is.root_own))
    where
      left_original : (x : Node) (root original : NodeId) → Contains g.nodes x → is_node_among ns x.id ≡ false → x.origin ≡ origin.Over root original → is_node_among ns original ≡ false
      left_original x root original c left e =
          elim (cases_Bool (is_node_among ns original)) [
            | inl gone ↦
                let l = IsLinked-from_sound s in
                let goes = takes.overs_go original x.id gone (overs-has l x.id x root original (node_at-member l x c) e) in
                absurd (true≢false (sym goes ∙ left))
            | inr stays ↦ stays
          ]

  left_arc : (a : ArcRec) → Contains (without_nodes g ns).arcs a → FitsArc t g a × (IsTrue (has_node (without_nodes g ns) a.src.node)) × (IsTrue (has_node (without_nodes g ns) a.node))
  left_arc a c =
      let both = Contains-from_filter (stays ns) g.arcs a c in
      let f = IsSound-arc s a both.0 in
      let ends = and_parts (not (is_node_among ns a.src.node)) (not (is_node_among ns a.node)) both.1 in
      (f, without_nodes-has g ns a.src.node f.src_there (not-true _ ends.0), without_nodes-has g ns a.node f.there (not-true _ ends.1))

  pub without_nodes-linked : IsLinked (without_nodes g ns)
  without_nodes-linked =
      IsLinked-from (without_nodes g ns) (rises-filter (λ x. x.id.0) (λ x. not (is_node_among ns x.id)) g.nodes s.ids_rise) left_origin
      (λ a c. let f = left_arc a c in (f.1, f.2))

  -- the kinds of the nodes that stay
  pub without_nodes-kind : (n : NodeId) → IsTrue (has_node (without_nodes g ns) n) → kind_of (without_nodes g ns) n ≡ kind_of g n
  without_nodes-kind n there = sym (kind_of-kept without_nodes-linked (IsLinked-from_sound s) (without_nodes-keeps g ns) n there)

  pub without_nodes-sound : IsSound t (without_nodes g ns)
  without_nodes-sound =
      IsSound-from t (without_nodes g ns) (rises-filter (λ x. x.id.0) (λ x. not (is_node_among ns x.id)) g.nodes s.ids_rise)
      (λ x c.
      let before = node_before x c in
      let f = IsSound-node s x before.0 in
      FitsNode-moved f (left_origin x c)
      (is_only-moved g (without_nodes g ns) x.origin f.only (λ root original e. filter_shorter (λ z. overrides root original z.origin) (λ z. not (is_node_among ns z.id)) g.nodes))
      (without_nodes-kind x.id (has_node-member without_nodes-linked x c)))
      (arcs_once-filter (stays ns) g.arcs s.arcs_differ)
      (λ a c.
      let f = left_arc a c in
      FitsArc-moved f.0 f.1 f.2 (without_nodes-kind a.src.node f.1) (without_nodes-kind a.node f.2)
      (filter_shorter (λ z. same_node z.node a.node && same_label z.input a.input) (stays ns) g.arcs))
      (let le = length_filter_le (stays ns) g.arcs in let few = s.arcs_few in omega (arith, le, few))

pub doomed-takes_overs : {g : Graph} → IsLinked g → (t : Tables) (n : NodeId) → TakesOvers g (doomed t g n)
doomed-takes_overs l t n = record { overs_go = λ m x goes over. doomed-overs l t n m x goes over }

-- a deletion
pub without_doomed-sound : {t : Tables} {g : Graph} → IsSound t g → (n : NodeId) → IsSound t (without_nodes g (doomed t g n))
without_doomed-sound {t} {g} s n = without_nodes-sound s (doomed-takes_overs (IsLinked-from_sound s) t n)
