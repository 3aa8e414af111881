-- What a node owns on the ways that a load makes: ways that stay whatever comes after, and that lead into cascade trees.
use Rattle.std.proofs.Common.{◌≡◌, ◌&&◌, List, [], ◌∷◌, Option, Some, None, map, filter_map, Contains, IsTrue, refl, sym, ap, ◌∙◌, subst, inl, inr}
use Rattle.std.proofs.lemmas.Bool.{and_from, and_parts, cases_Bool}
use Rattle.std.specs.List.{cons_option}
use Rattle.dg_base.specs.declared.ids.NodeId.{NodeId}
use Rattle.dg_base.specs.declared.ids.Label.{Label}
use Rattle.dg_base.specs.declared.ids.Kind.{Kind}
use Rattle.dg_base.specs.declared.ids.Endpoint.{Endpoint}
use Rattle.dg_base.specs.declared.ids.ArcRec.{ArcRec}
use Rattle.dg_base.specs.declared.graph.Node.{Node}
use Rattle.dg_base.specs.declared.graph.Origin.{Origin}
use Rattle.dg_base.specs.declared.graph.Origin.TheVariants as origin
use Rattle.dg_base.specs.Same.{same_node, same_label}
use Rattle.dg_base.specs.Order.{is_node_among}
use Rattle.dg_base.specs.Tables.{Tables}
use Rattle.dg_base.specs.Graph.{Graph, node_at, has_node, origin_of, origin_at, override_in, arcs_into, explicit_sources}
use Rattle.dg_base.specs.Chain.{kind_of}
use Rattle.dg_base.specs.Sources.{moved_to, replaced, explicit_or, sources}
use Rattle.dg_base.specs.Owned.{cascading_inputs, owned_by_origin, owned_over, nodes_or, owned_through, owned, cascade_tree}
use Rattle.dg_base.specs.Sound.{IsLinked}
use Rattle.dg_base.specs.Progress.{Progress, IsReady}
use Rattle.dg_laws.proofs.Members.{Contains-head, Contains-tail, Contains-cases, Contains-none, Contains-map, Contains-filter, Contains-flat_map, filter_nothing}
use Rattle.dg_laws.proofs.Among.{among_from_Contains}
use Rattle.dg_laws.proofs.Ids.{same_node-is, same_node-itself, nodes_tell, labels_tell}
use Rattle.dg_laws.proofs.Nodes.{IsLinked-from_sound, has_node-at}
use Rattle.dg_laws.proofs.Chains.{kind-over}
use Rattle.dg_laws.proofs.Sources.{override_in-is, sources-over, sources-plain}
use Rattle.dg_laws.proofs.GraphWalks.{cascade_tree-itself, cascade_tree-closed}
use Rattle.dg_laws.proofs.SoundParts.{IsSound-arc, kind_of-kept}
use Rattle.dg_load_laws.proofs.Growth.{Leaves}

-- ---- arcs into plain nodes

-- each arc goes into a plain node, as all arcs of a load do
abbrev pub ArcsArePlain : Graph → Type 0
ArcsArePlain g = (a : ArcRec) → Contains g.arcs a → (k : Kind) × (origin_at g a.node ≡ Some (origin.Plain k))

not_both : (o : Option Origin) (root original : NodeId) (k : Kind) → o ≡ Some (origin.Over root original) → o ≡ Some (origin.Plain k) → ⊥
not_both o root original k a b = let wrong : Some (origin.Over root original) ≡ Some (origin.Plain k) = sym a ∙ b in cc

pub origin_at-is : (g : Graph) (n : NodeId) (w : Origin) → origin_at g n ≡ Some w → (x : Node) × (node_at g n ≡ Some x) × (x.origin ≡ w)
origin_at-is g n w e = by_node (node_at g n) e
  where
    by_node : (o : Option Node) → origin_of o ≡ Some w → (x : Node) × (o ≡ Some x) × (x.origin ≡ w)
    by_node None h = let wrong : None ≡ Some w = h in cc
    by_node (Some x) h = (x, refl, cc)

pub origin_at-there : (g : Graph) (n : NodeId) (w : Origin) → origin_at g n ≡ Some w → IsTrue (has_node g n)
origin_at-there g n w e = let x = origin_at-is g n w e in has_node-at g n x.0 x.1

-- so none goes into an override node
pub over-bare : {g : Graph} → IsLinked g → ArcsArePlain g → (root original m : NodeId) (i : Label) → override_in g root original ≡ Some m → explicit_sources g m i ≡ []
over-bare {g} l plain root original m i e =
    let is = override_in-is l root original m e in
    let from : origin_at g m ≡ Some (origin.Over root original) = ap origin_of is.at ∙ ap (λ (w : Origin). Some w) is.over in
    ap (map (λ (a : ArcRec). a.src)) (filter_nothing (λ a. same_node a.node m && same_label a.input i) g.arcs (λ a c.
    elim (cases_Bool (same_node a.node m && same_label a.input i)) [
      | inl here ↦
          let k = plain a c in
          let at : a.node ≡ m = same_node-is a.node m (and_parts (same_node a.node m) (same_label a.input i) here).0 in
          absurd (not_both (origin_at g m) root original k.0 from (ap (origin_at g) (sym at) ∙ k.1))
      | inr other ↦ other
    ]))

-- ---- what is owned

-- through an arc into a cascading input, or as the override node of what is owned
pub data Owns (t : Tables) (g : Graph) : NodeId → NodeId → Type 0 where
  fed : (n m : NodeId) (l i : Label) → Contains g.arcs (record { src = record { node = m; label = l }; node = n; input = i }) → Contains (cascading_inputs t (kind_of g n)) i → Owns t g n m
  over : (root n m n_over m_over : NodeId) → Owns t g n m → override_in g root n ≡ Some n_over → override_in g root m ≡ Some m_over → Owns t g n_over m_over

pub Contains-filter_map : {X Y : Type 0} (f : X → Option Y) (xs : List X) (x : X) (y : Y) → Contains xs x → f x ≡ Some y → Contains (filter_map f xs) y
Contains-filter_map f [] x y c e = Contains-none x c
Contains-filter_map f (z ∷ xs) x y c e =
    elim (Contains-cases z xs x c) [
      | inl is ↦ here (f z) (ap f is ∙ e)
      | inr rest ↦ later (f z) (Contains-filter_map f xs x y rest e)
    ]
  where
    here : (o : Option _) → o ≡ Some y → Contains (cons_option o (filter_map f xs)) y
    here None h = let wrong : None ≡ Some y = h in cc
    here (Some w) h = let is : w ≡ y = cc in subst (λ v. Contains (w ∷ filter_map f xs) v) is (Contains-head w (filter_map f xs))

    later : (o : Option _) → Contains (filter_map f xs) y → Contains (cons_option o (filter_map f xs)) y
    later None h = h
    later (Some w) h = Contains-tail w (filter_map f xs) y h

-- an input through which a node owns another, and the source there
record IsOwned (t : Tables) (g : Graph) (n m : NodeId) : Type 0 where
  input : Label
  cascade : Contains (cascading_inputs t (kind_of g n)) input
  source : Endpoint
  at : Contains (sources g n input) source
  is : source.node ≡ m
  listed : Contains (owned_through g n input) m

module _ (t : Tables) {g : Graph} (l : IsLinked g) (plain : ArcsArePlain g) where
  -- an arc's source is owned
  fed-owned : (n m : NodeId) (label i : Label) → Contains g.arcs (record { src = record { node = m; label = label }; node = n; input = i }) → Contains (cascading_inputs t (kind_of g n)) i → IsOwned t g n m
  fed-owned n m label i c cascade = record {
    input = i;
    cascade = cascade;
    source = a.src;
    at = subst (λ (ss : List Endpoint). Contains ss a.src) (sym plain_sources) explicit;
    is = refl;
    listed = by_sources (explicit_sources g n i) explicit;
  }
    where
      a : ArcRec
      a = record { src = record { node = m; label = label }; node = n; input = i }

      explicit : Contains (explicit_sources g n i) a.src
      explicit =
          Contains-map (λ (z : ArcRec). z.src) (arcs_into g n i) a
          (Contains-filter (λ z. same_node z.node n && same_label z.input i) g.arcs a c (and_from _ _ (same_node-itself n) (labels_tell.itself i)))

      by_sources : (ss : List Endpoint) → Contains ss a.src → Contains (nodes_or ss (owned_over g i (node_at g n))) m
      by_sources [] h = Contains-none a.src h
      by_sources (s ∷ ss) h = Contains-map (λ (e : Endpoint). e.node) (s ∷ ss) a.src h

      plain_sources : sources g n i ≡ explicit_sources g n i
      plain_sources =
          let k = plain a c in
          let x = origin_at-is g n (origin.Plain k.0) k.1 in
          sources-plain l n x.0 k.0 i x.1 x.2

  -- an override node owns the override nodes of what its original owns
  over-owned : (root n m n_over m_over : NodeId) → IsOwned t g n m → override_in g root n ≡ Some n_over → override_in g root m ≡ Some m_over → IsOwned t g n_over m_over
  over-owned root n m n_over m_over o e f =
      let is = override_in-is l root n n_over e in
      let bare = over-bare l plain root n n_over o.input e in
      let inherited : sources g n_over o.input ≡ map (replaced g root) (sources g n o.input) =
      sources-over l n_over is.node root n o.input is.at is.over ∙ ap (λ (ss : List Endpoint). explicit_or ss (map (replaced g root) (sources g n o.input))) bare
      in
      let through : owned_through g n_over o.input ≡ owned_by_origin g o.input (origin.Over root n) =
      ap (λ (ss : List Endpoint). nodes_or ss (owned_over g o.input (node_at g n_over))) bare
      ∙ ap (owned_over g o.input) is.at
      ∙ ap (owned_by_origin g o.input) is.over
      in
      record {
        input = o.input;
        cascade = subst (λ (k : Option Kind). Contains (cascading_inputs t k) o.input) (sym (kind-over l n_over is.node root n is.at is.over)) o.cascade;
        source = replaced g root o.source;
        at = subst (λ (ss : List Endpoint). Contains ss (replaced g root o.source)) (sym inherited) (Contains-map (replaced g root) (sources g n o.input) o.source o.at);
        is = ap (λ (z : Option NodeId). (moved_to o.source z).node) (ap (override_in g root) o.is ∙ f);
        listed = subst (λ (ns : List NodeId). Contains ns m_over) (sym through)
            (Contains-filter_map (λ (z : Endpoint). override_in g root z.node) (sources g n o.input) o.source m_over o.at (ap (override_in g root) o.is ∙ f));
      }

  Owns-is_owned : (n m : NodeId) → Owns t g n m → IsOwned t g n m
  Owns-is_owned _ _ (fed n m label i c cascade) = fed-owned n m label i c cascade
  Owns-is_owned _ _ (over root n m n_over m_over o e f) = over-owned root n m n_over m_over (Owns-is_owned n m o) e f

  pub Owns-owned : (n m : NodeId) → Owns t g n m → IsTrue (is_node_among (owned t g n) m)
  Owns-owned n m o =
      let is = Owns-is_owned n m o in
      among_from_Contains nodes_tell (owned t g n) m (Contains-flat_map (owned_through g n) (cascading_inputs t (kind_of g n)) is.input m is.cascade is.listed)

-- ---- ways

-- what stands below a node: the node itself, and what a node below it owns
pub data Under (t : Tables) (g : Graph) : NodeId → NodeId → Type 0 where
  itself : (n : NodeId) → Under t g n n
  below : (n m x : NodeId) → Under t g n m → Owns t g m x → Under t g n x

pub Under-on : {t : Tables} {g : Graph} (n m x : NodeId) → Under t g m x → Under t g n m → Under t g n x
Under-on n _ _ (itself m) u = u
Under-on n _ _ (below m y x v o) u = below n y x (Under-on n m y v u) o

-- all of it stands in the cascade tree
pub Under-tree : (t : Tables) {g : Graph} → IsLinked g → ArcsArePlain g → (n m : NodeId) → Under t g n m → IsTrue (is_node_among (cascade_tree t g n) m)
Under-tree t l plain _ _ (itself n) = cascade_tree-itself l t n
Under-tree t l plain _ _ (below n m x u o) = cascade_tree-closed l t n m x (Under-tree t l plain n m u) (Owns-owned t l plain m x o)

-- ---- later

module _ {t : Tables} {k : Kind} {more : List NodeId} {p q : Progress} (a : IsReady t p) (b : IsReady t q) (g : Leaves k more p q) where
  pub Owns-later : (n m : NodeId) → Owns t p.graph n m → Owns t q.graph n m
  Owns-later _ _ (fed n m label i c cascade) =
      fed n m label i (g.arcs (record { src = record { node = m; label = label }; node = n; input = i }) c)
      (subst (λ (o : Option Kind). Contains (cascading_inputs t o) i)
      (sym (kind_of-kept (IsLinked-from_sound a.sound) (IsLinked-from_sound b.sound) g.keeps n
      (IsSound-arc a.sound (record { src = record { node = m; label = label }; node = n; input = i }) c).there)) cascade)
  Owns-later _ _ (over root n m n_over m_over o e f) =
      over root n m n_over m_over (Owns-later n m o) (g.overs root n n_over e) (g.overs root m m_over f)

  pub Under-later : (n m : NodeId) → Under t p.graph n m → Under t q.graph n m
  Under-later _ _ (itself n) = itself n
  Under-later _ _ (below n m x u o) = below n m x (Under-later n m u) (Owns-later m x o)

  -- arcs go into plain nodes as before
  pub plain-later : ArcsArePlain p.graph → ArcsArePlain q.graph
  plain-later plain c d =
      elim (g.news c d) [
        | inl old ↦
            let k = plain c old in
            (k.0, g.keeps.origins c.node (IsSound-arc a.sound c old).there ∙ k.1)
        | inr new ↦ (new.0, g.keeps.origins c.node (origin_at-there p.graph c.node (origin.Plain new.0) new.1) ∙ new.1)
      ]

  -- each node below one, in the override of a root where each node of the cascade tree has its override node
  pub Under-over : (root n m : NodeId) → Under t p.graph n m → ArcsArePlain p.graph → (n_over : NodeId) → override_in q.graph root n ≡ Some n_over →
      ((x : NodeId) → IsTrue (is_node_among (cascade_tree t p.graph n) x) → (y : NodeId) × (override_in q.graph root x ≡ Some y)) →
      (y : NodeId) × (override_in q.graph root m ≡ Some y) × Under t q.graph n_over y
  Under-over root _ _ (itself n) plain n_over e covers = (n_over, e, itself n_over)
  Under-over root _ _ (below n m x u o) plain n_over e covers =
      let above = Under-over root n m u plain n_over e covers in
      let y = covers x (Under-tree t (IsLinked-from_sound a.sound) plain n x (below n m x u o)) in
      (y.0, y.1, below n_over above.0 y.0 above.2 (over root m x above.0 y.0 (Owns-later m x o) above.1 y.1))
