-- What a node's origin says of its chain, its kind and its sources, in a graph whose originals are there.
use Rattle.std.proofs.Common.{◌≡◌, ◌<◌, Option, Some, None, map, refl, ℕ, true, false, ◌||◌, ap, ◌∙◌, subst, ne_eqb}
use Rattle.dg_base.specs.declared.ids.NodeId.{NodeId}
use Rattle.dg_base.specs.declared.ids.Label.{Label}
use Rattle.dg_base.specs.declared.ids.Kind.{Kind}
use Rattle.dg_base.specs.declared.graph.Node.{Node}
use Rattle.dg_base.specs.declared.graph.Origin.{Origin}
use Rattle.dg_base.specs.declared.graph.Origin.TheVariants as origin
use Rattle.dg_base.specs.Graph.{Graph, node_at, origin_of, origin_at, explicit_sources}
use Rattle.dg_base.specs.Chain.{chain, holds, kind_of}
use Rattle.dg_base.specs.Same.{same_node}
use Rattle.dg_base.specs.Sources.{sources, replaced, explicit_or}
use Rattle.dg_base.specs.Sound.{IsLinked}
use Rattle.dg_laws.proofs.Nodes.{has_node-at}
use Rattle.dg_laws.proofs.Chains.{IsOriginal-of, kind-plain, kind-over, kind-absent, holds-itself, holds-over, holds-plain}
use Rattle.dg_laws.proofs.Sources.{sources-plain, sources-over}

-- the node that has an origin
pub record HasOrigin (g : Graph) (n : NodeId) (w : Origin) : Type 0 where
  pub node : Node
  pub at : node_at g n ≡ Some node
  pub from : node.origin ≡ w

some_inside : (a b : Origin) → Some a ≡ Some b → a ≡ b
some_inside a b e = cc

pub HasOrigin-of : (g : Graph) (n : NodeId) (w : Origin) → origin_at g n ≡ Some w → HasOrigin g n w
HasOrigin-of g n w e = by_node (node_at g n) refl e
  where
    by_node : (o : Option Node) → node_at g n ≡ o → origin_of o ≡ Some w → HasOrigin g n w
    by_node None is h = let none : ⊥ = cc in absurd none
    by_node (Some x) is h = record { node = x; at = is; from = some_inside x.origin w h }

pub absent-of : (g : Graph) (n : NodeId) → origin_at g n ≡ None → node_at g n ≡ None
absent-of g n e = by_node (node_at g n) refl e
  where
    by_node : (o : Option Node) → node_at g n ≡ o → origin_of o ≡ None → node_at g n ≡ None
    by_node None is h = is
    by_node (Some x) is h = let none : ⊥ = cc in absurd none

module _ {g : Graph} (l : IsLinked g) (n : NodeId) where
  pub kind-from_plain : (k : Kind) → origin_at g n ≡ Some (origin.Plain k) → kind_of g n ≡ Some k
  kind-from_plain k e = let h = HasOrigin-of g n (origin.Plain k) e in kind-plain l n h.node k h.at h.from

  pub kind-from_over : (root original : NodeId) → origin_at g n ≡ Some (origin.Over root original) → kind_of g n ≡ kind_of g original
  kind-from_over root original e = let h = HasOrigin-of g n (origin.Over root original) e in kind-over l n h.node root original h.at h.from

  pub kind-from_none : origin_at g n ≡ None → kind_of g n ≡ None
  kind-from_none e = kind-absent g n (absent-of g n e)

  pub original-below : (root original : NodeId) → origin_at g n ≡ Some (origin.Over root original) → original.0 < n.0
  original-below root original e = let h = HasOrigin-of g n (origin.Over root original) e in (IsOriginal-of l n h.node root original h.at h.from).before

  pub sources-from_plain : (k : Kind) (i : Label) → origin_at g n ≡ Some (origin.Plain k) → sources g n i ≡ explicit_sources g n i
  sources-from_plain k i e = let h = HasOrigin-of g n (origin.Plain k) e in sources-plain l n h.node k i h.at h.from

  pub sources-from_over : (root original : NodeId) (i : Label) → origin_at g n ≡ Some (origin.Over root original) →
      sources g n i ≡ explicit_or (explicit_sources g n i) (map (replaced g root) (sources g original i))
  sources-from_over root original i e = let h = HasOrigin-of g n (origin.Over root original) e in sources-over l n h.node root original i h.at h.from

  pub holds-from_same : (w : Origin) (m : NodeId) → origin_at g n ≡ Some w → n.0 ≡ m.0 → holds (chain g n) m ≡ true
  holds-from_same w m e same =
      let h = HasOrigin-of g n w e in
      let is : n ≡ m = ap (λ (k : ℕ). let id : NodeId = record { 0 = k } in id) same in
      subst (λ (z : NodeId). holds (chain g n) z ≡ true) is (holds-itself l n (has_node-at g n h.node h.at))

  other : (m : NodeId) → (n.0 ≡ m.0 → ⊥) → same_node n m ≡ false
  other m differ = ne_eqb n.0 m.0 differ

  pub holds-from_over : (root original m : NodeId) → origin_at g n ≡ Some (origin.Over root original) → (n.0 ≡ m.0 → ⊥) → holds (chain g n) m ≡ holds (chain g original) m
  holds-from_over root original m e differ =
      let h = HasOrigin-of g n (origin.Over root original) e in
      holds-over l n h.node root original m h.at h.from ∙ ap (λ b. b || holds (chain g original) m) (other m differ)

  pub holds-from_plain : (k : Kind) (m : NodeId) → origin_at g n ≡ Some (origin.Plain k) → (n.0 ≡ m.0 → ⊥) → holds (chain g n) m ≡ false
  holds-from_plain k m e differ =
      let h = HasOrigin-of g n (origin.Plain k) e in
      holds-plain l n h.node k m h.at h.from ∙ other m differ
