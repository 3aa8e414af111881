-- Override nodes, and the sources of inputs in a linked graph: those of a plain node are the explicit
-- ones, and those of an override node follow from its original's.
use Rattle.std.proofs.Common.{◌≡◌, ◌⊎◌, Bool, true, false, ◌&&◌, List, [], ◌∷◌, Option, Some, None, map, find, is_some, Contains, IsTrue, refl, sym, ap, ◌∙◌, subst, inl, inr, true≢false}
use Rattle.std.proofs.lemmas.Bool.{and_parts, and_from}
use Rattle.dg_base.specs.declared.ids.NodeId.{NodeId}
use Rattle.dg_base.specs.declared.ids.Label.{Label}
use Rattle.dg_base.specs.declared.ids.Kind.{Kind}
use Rattle.dg_base.specs.declared.ids.Endpoint.{Endpoint}
use Rattle.dg_base.specs.declared.ids.ArcRec.{ArcRec}
use Rattle.dg_base.specs.declared.graph.Node.{Node}
use Rattle.dg_base.specs.declared.graph.Origin.{Origin}
use Rattle.dg_base.specs.declared.graph.Origin.TheVariants as origin
use Rattle.dg_base.specs.Same.{same_node, same_label}
use Rattle.dg_base.specs.Graph.{Graph, node_at, has_node, overrides, id_of, override_in, arcs_into, explicit_sources}
use Rattle.dg_base.specs.Sources.{moved_to, replaced, inherited_along, explicit_or, sources_along, sources}
use Rattle.dg_base.specs.Sound.{IsLinked}
use Rattle.dg_laws.proofs.Members.{Contains-none, Contains-from_map, Contains-from_filter, find_gives, filter_nothing, list_all_at}
use Rattle.dg_laws.proofs.Ids.{same_node-is, same_node-itself}
use Rattle.dg_laws.proofs.Nodes.{node_at-id, node_at-member, node_at-cases, has_node-at}
use Rattle.dg_laws.proofs.Chains.{chain-plain, chain-over, chain-absent, along_originals}

-- ---- override nodes

pub overrides-is : (root original : NodeId) (w : Origin) → overrides root original w ≡ true → w ≡ origin.Over root original
overrides-is root original (origin.Plain kind) h = absurd (true≢false (sym h))
overrides-is root original (origin.Over r o) h =
    let both = and_parts (same_node r root) (same_node o original) h in
    let same_root = same_node-is r root both.0 in
    let same_original = same_node-is o original both.1 in
    cc

pub overrides-itself : (root original : NodeId) → overrides root original (origin.Over root original) ≡ true
overrides-itself root original = and_from _ _ (same_node-itself root) (same_node-itself original)

pub id_of-some : (o : Option Node) (m : NodeId) → id_of o ≡ Some m → (x : Node) × (o ≡ Some x) × (x.id ≡ m)
id_of-some None m h = let no : ⊥ = cc in absurd no
id_of-some (Some x) m h = (x, refl, cc)

-- the override node of an original in an override
pub record IsOverride (g : Graph) (m root original : NodeId) : Type 0 where
  pub node : Node
  pub at : node_at g m ≡ Some node
  pub over : node.origin ≡ origin.Over root original

pub override_in-is : {g : Graph} → IsLinked g → (root original m : NodeId) → override_in g root original ≡ Some m → IsOverride g m root original
override_in-is {g} l root original m h =
    let x = id_of-some (find (λ z. overrides root original z.origin) g.nodes) m h in
    let found = find_gives (λ z. overrides root original z.origin) g.nodes x.0 x.1 in
    record {
      node = x.0;
      at = subst (λ (k : NodeId). node_at g k ≡ Some x.0) x.2 (node_at-member l x.0 found.0);
      over = overrides-is root original x.0.origin found.1;
    }

pub override_in-there : {g : Graph} → IsLinked g → (root original m : NodeId) → override_in g root original ≡ Some m → IsTrue (has_node g m)
override_in-there {g} l root original m h = let is = override_in-is l root original m h in has_node-at g m is.node is.at

-- ---- sources

arc_elsewhere : (g : Graph) (n : NodeId) (i : Label) (a : ArcRec) → IsTrue (has_node g a.node) → node_at g n ≡ None → (same_node a.node n && same_label a.input i) ≡ false
arc_elsewhere g n i a there none = by_test (same_node a.node n) refl
  where
    by_test : (b : Bool) → same_node a.node n ≡ b → (b && same_label a.input i) ≡ false
    by_test true e =
        let is : a.node ≡ n = same_node-is a.node n e in
        let gone : is_some (node_at g a.node) ≡ false = ap (λ (m : NodeId). is_some (node_at g m)) is ∙ ap is_some none in
        absurd (true≢false (sym there ∙ gone))
    by_test false e = refl

pub explicit_sources-absent : {g : Graph} → IsLinked g → (n : NodeId) (i : Label) → node_at g n ≡ None → explicit_sources g n i ≡ []
explicit_sources-absent {g} l n i none =
    ap (map (λ a. a.src)) (filter_nothing (λ a. same_node a.node n && same_label a.input i) g.arcs (λ a c.
    arc_elsewhere g n i a (and_parts (has_node g a.src.node) (has_node g a.node) (list_all_at (λ z. has_node g z.src.node && has_node g z.node) g.arcs a l.arcs_there c)).1 none))

pub explicit_sources-ends : {g : Graph} → IsLinked g → (n : NodeId) (i : Label) (s : Endpoint) → Contains (explicit_sources g n i) s → IsTrue (has_node g s.node)
explicit_sources-ends {g} l n i s c =
    let a = Contains-from_map (λ (z : ArcRec). z.src) (arcs_into g n i) s c in
    let in_arcs = (Contains-from_filter (λ z. same_node z.node n && same_label z.input i) g.arcs a.0 a.1).0 in
    let there = (and_parts (has_node g a.0.src.node) (has_node g a.0.node) (list_all_at (λ z. has_node g z.src.node && has_node g z.node) g.arcs a.0 l.arcs_there in_arcs)).0 in
    subst (λ (z : Endpoint). IsTrue (has_node g z.node)) a.2 there

pub sources-absent : (g : Graph) (n : NodeId) (i : Label) → node_at g n ≡ None → sources g n i ≡ []
sources-absent g n i none = ap (λ (xs : List Node). sources_along g xs i) (chain-absent g n none)

explicit_or-nil : (ss : List Endpoint) → explicit_or ss [] ≡ ss
explicit_or-nil [] = refl
explicit_or-nil (s ∷ ss) = refl

pub sources-plain : {g : Graph} → IsLinked g → (n : NodeId) (x : Node) (k : Kind) (i : Label) → node_at g n ≡ Some x → x.origin ≡ origin.Plain k →
    sources g n i ≡ explicit_sources g n i
sources-plain {g} l n x k i e o =
    ap (λ (xs : List Node). sources_along g xs i) (chain-plain l n x k e o)
    ∙ ap (λ (w : Origin). explicit_or (explicit_sources g x.id i) (inherited_along g w [])) o
    ∙ explicit_or-nil (explicit_sources g x.id i)
    ∙ ap (λ (m : NodeId). explicit_sources g m i) (node_at-id g n x e)

pub sources-over : {g : Graph} → IsLinked g → (n : NodeId) (x : Node) (root original : NodeId) (i : Label) → node_at g n ≡ Some x → x.origin ≡ origin.Over root original →
    sources g n i ≡ explicit_or (explicit_sources g n i) (map (replaced g root) (sources g original i))
sources-over {g} l n x root original i e o =
    ap (λ (xs : List Node). sources_along g xs i) (chain-over l n x root original e o)
    ∙ ap (λ (w : Origin). explicit_or (explicit_sources g x.id i) (inherited_along g w (sources g original i))) o
    ∙ ap (λ (m : NodeId). explicit_or (explicit_sources g m i) (map (replaced g root) (sources g original i))) (node_at-id g n x e)

explicit_or-cases : (ss others : List Endpoint) (s : Endpoint) → Contains (explicit_or ss others) s → Contains ss s ⊎ Contains others s
explicit_or-cases [] others s c = inr c
explicit_or-cases (e ∷ es) others s c = inl c

moved_to-there : {g : Graph} → IsLinked g → (root : NodeId) (s : Endpoint) (o : Option NodeId) → override_in g root s.node ≡ o → IsTrue (has_node g s.node) →
    IsTrue (has_node g (moved_to s o).node)
moved_to-there {g} l root s None e there = there
moved_to-there {g} l root s (Some m) e there = override_in-there l root s.node m e

abbrev EndsAreThere : Graph → Label → NodeId → Type 0
EndsAreThere g i n = (s : Endpoint) → Contains (sources g n i) s → IsTrue (has_node g s.node)

-- each source is on a node that is there
pub sources-ends : {g : Graph} → IsLinked g → (n : NodeId) (i : Label) (s : Endpoint) → Contains (sources g n i) s → IsTrue (has_node g s.node)
sources-ends {g} l n i s c =
    elim (node_at-cases g n) [
      | inl there ↦ along_originals l (EndsAreThere g i) step n (has_node-at g n there.0 there.1) s c
      | inr none ↦ Contains-none s (subst (λ (z : List Endpoint). Contains z s) (sources-absent g n i none) c)
    ]
  where
    by_origin : (n : NodeId) (x : Node) (w : Origin) → node_at g n ≡ Some x → x.origin ≡ w → ((root original : NodeId) → x.origin ≡ origin.Over root original → EndsAreThere g i original) → EndsAreThere g i n
    by_origin n x (origin.Plain kind) e o above s c =
        explicit_sources-ends l n i s (subst (λ (z : List Endpoint). Contains z s) (sources-plain l n x kind i e o) c)
    by_origin n x (origin.Over root original) e o above s c =
        elim (explicit_or-cases (explicit_sources g n i) (map (replaced g root) (sources g original i)) s
        (subst (λ (z : List Endpoint). Contains z s) (sources-over l n x root original i e o) c)) [
          | inl own ↦ explicit_sources-ends l n i s own
          | inr moved ↦
              let z = Contains-from_map (replaced g root) (sources g original i) s moved in
              subst (λ (k : Endpoint). IsTrue (has_node g k.node)) z.2 (moved_to-there l root z.0 (override_in g root z.0.node) refl (above root original o z.0 z.1))
        ]

    step : (n : NodeId) (x : Node) → node_at g n ≡ Some x → ((root original : NodeId) → x.origin ≡ origin.Over root original → EndsAreThere g i original) → EndsAreThere g i n
    step n x e above = by_origin n x x.origin e refl above
