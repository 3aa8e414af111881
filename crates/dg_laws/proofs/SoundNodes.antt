-- A sound graph with one node more, or without some of its nodes, is sound.
use Rattle.std.proofs.Common.{◌≡◌, ℕ, ◌+◌, ◌<◌, ◌≤◌, true, false, cond, List, [], ◌∷◌, ◌++◌, Option, Some, None, filter, find, length, Contains, IsTrue, nat_le, refl, sym, ap, ◌∙◌, subst, inl, inr, arith, true≢false, append-nil, ne_eqb}
use Rattle.std.proofs.lemmas.Bool.{cases_Bool, eqb-false}
use Rattle.std.proofs.lemmas.List.Elements.{Contains-push_cases, filter-append}
use Rattle.std.proofs.lemmas.List.Folds.{find-append}
use Rattle.std.specs.Option.{option_or}
use Rattle.dg_base.specs.declared.ids.NodeId.{NodeId}
use Rattle.dg_base.specs.declared.ids.Kind.{Kind}
use Rattle.dg_base.specs.declared.graph.Node.{Node}
use Rattle.dg_base.specs.declared.graph.Origin.{Origin}
use Rattle.dg_base.specs.declared.graph.Origin.TheVariants as origin
use Rattle.dg_base.specs.Same.{same_node}
use Rattle.dg_base.specs.Tables.{Tables}
use Rattle.dg_base.specs.Graph.{Graph, node_at, has_node, overrides, id_of, override_in, origin_of}
use Rattle.dg_base.specs.Sound.{IsSound, max_nodes, names_itself, origin_fits, is_only_override, ids_below, IsLinked}
use Rattle.dg_base.specs.Changes.{new_node, with_node}
use Rattle.dg_laws.proofs.Members.{find_none, filter_nothing}
use Rattle.dg_laws.proofs.Rising.{rises-push}
use Rattle.dg_laws.proofs.Ids.{same_node-is, same_node-itself}
use Rattle.dg_laws.proofs.Nodes.{IsLinked-from_sound, node_at-there, node_at-absent, has_node-member}
use Rattle.dg_laws.proofs.Sources.{overrides-is, overrides-itself}
use Rattle.dg_laws.proofs.SoundParts.{FitsNode, IsSound-node, IsSound-arc, IsSound-from, IsLinked-from, origin_fits-over, origin_fits-moved, is_only-moved, Keeps, Keeps-there, Keeps-names, kind_of-kept, FitsNode-moved, FitsArc-moved, below-member, below-there, below-absent, below-from}

-- ---- one node more

pub with_node-old : (g : Graph) (x : Node) (n : NodeId) (y : Node) → node_at g n ≡ Some y → node_at (with_node g x) n ≡ Some y
with_node-old g x n y e =
    find-append (λ z. same_node z.id n) g.nodes (x ∷ []) ∙ ap (λ (o : Option Node). option_or o (find (λ z. same_node z.id n) (x ∷ []))) e

pub with_node-absent : (g : Graph) (x : Node) (n : NodeId) → node_at g n ≡ None → node_at (with_node g x) n ≡ cond (same_node x.id n) (Some x) None
with_node-absent g x n e =
    find-append (λ z. same_node z.id n) g.nodes (x ∷ []) ∙ ap (λ (o : Option Node). option_or o (find (λ z. same_node z.id n) (x ∷ []))) e

pub with_node-new : (g : Graph) (x : Node) → IsTrue (ids_below g x.id.0) → node_at (with_node g x) x.id ≡ Some x
with_node-new g x below =
    with_node-absent g x x.id (node_at-absent g x.id (below-absent g x.id below)) ∙ ap (λ b. cond b (Some x) None) (same_node-itself x.id)

pub with_node-keeps : (g : Graph) (x : Node) → Keeps g (with_node g x)
with_node-keeps g x = record {
  origins = λ n there.
      let y = node_at-there g n there in
      ap origin_of (with_node-old g x n y.0 y.1) ∙ sym (ap origin_of y.1);
}

pub with_node-below : (g : Graph) (x : Node) (next : ℕ) → IsTrue (ids_below g next) → next ≡ x.id.0 → IsTrue (ids_below (with_node g x) (next + 1))
with_node-below g x next below is = below-from (with_node g x) (next + 1) (λ y c.
    elim (Contains-push_cases g.nodes x y c) [
      | inl old ↦ let lt = below-member g next below y old in omega (arith, lt)
      | inr new ↦ let same : x.id.0 ≡ y.id.0 = ap (λ (z : Node). z.id.0) new in omega (arith, same, is)
    ])

-- what a node that is added has to be, beside its id
record FitsLast (g : Graph) (x : Node) : Type 0 where
  from : IsTrue (origin_fits (with_node g x) x.id x.origin)
  only : IsTrue (is_only_override (with_node g x) x.origin)
  others : (root original : NodeId) (y : Node) → Contains g.nodes y → y.origin ≡ origin.Over root original → overrides root original x.origin ≡ false

old_names : (g : Graph) (x : Node) → IsTrue (ids_below g x.id.0) → (root : NodeId) → root.0 < x.id.0 → IsTrue (names_itself root (node_at g root)) →
    IsTrue (names_itself root (node_at (with_node g x) root))
old_names g x below root lt names =
    elim (cases_Bool (has_node g root)) [
      | inl there ↦ Keeps-names (with_node-keeps g x) root there names
      | inr absent ↦
          let other : same_node x.id root ≡ false = ne_eqb x.id.0 root.0 (λ e. omega (arith, e, lt)) in
          let none : node_at (with_node g x) root ≡ None = with_node-absent g x root (node_at-absent g root absent) ∙ ap (λ b. cond b (Some x) None) other in
          ap (names_itself root) none
    ]

old_origin : (g : Graph) (x : Node) → IsTrue (ids_below g x.id.0) → (y : Node) → Contains g.nodes y → IsTrue (origin_fits g y.id y.origin) →
    IsTrue (origin_fits (with_node g x) y.id y.origin)
old_origin g x below y c fits = origin_fits-moved g (with_node g x) y.id y.origin fits (λ root original e is.
    let lt = below-member g x.id.0 below y c in
    let upto = is.root_upto in
    (Keeps-there (with_node-keeps g x) original is.there, old_names g x below root (omega (arith, lt, upto)) is.root_own))

old_only : (g : Graph) (x : Node) → FitsLast g x → (y : Node) → Contains g.nodes y → IsTrue (is_only_override g y.origin) → IsTrue (is_only_override (with_node g x) y.origin)
old_only g x last y c only = is_only-moved g (with_node g x) y.origin only (λ root original e.
    let other = last.others root original y c e in
    let same : filter (λ z. overrides root original z.origin) (g.nodes ++ x ∷ []) ≡ filter (λ z. overrides root original z.origin) g.nodes =
    filter-append (λ z. overrides root original z.origin) g.nodes (x ∷ [])
    ∙ ap (λ b. filter (λ z. overrides root original z.origin) g.nodes ++ cond b (x ∷ []) []) other
    ∙ append-nil (filter (λ z. overrides root original z.origin) g.nodes)
    in
    let long = ap length same in
    omega (arith, long))

with_node-linked : {t : Tables} {g : Graph} → IsSound t g → (x : Node) → IsTrue (ids_below g x.id.0) → FitsLast g x → IsLinked (with_node g x)
with_node-linked {t} {g} s x below last =
    IsLinked-from (with_node g x) (rises-push (λ (z : Node). z.id.0) g.nodes x s.ids_rise below)
    (λ y c.
    elim (Contains-push_cases g.nodes x y c) [
      | inl old ↦ old_origin g x below y old (IsSound-node s y old).from
      | inr new ↦ subst (λ (z : Node). IsTrue (origin_fits (with_node g x) z.id z.origin)) new last.from
    ])
    (λ a c.
    let fits = IsSound-arc s a c in
    (Keeps-there (with_node-keeps g x) a.src.node fits.src_there, Keeps-there (with_node-keeps g x) a.node fits.there))

with_node-sound : {t : Tables} {g : Graph} → IsSound t g → (n : NodeId) (w : Origin) → IsTrue (ids_below g n.0) → 1 ≤ n.0 → n.0 ≤ max_nodes → FitsLast g (new_node n w) →
    IsSound t (with_node g (new_node n w))
with_node-sound {t} {g} s n w below low high last =
    IsSound-from t h (rises-push (λ (z : Node). z.id.0) g.nodes x s.ids_rise below)
    (λ y c.
    elim (Contains-push_cases g.nodes x y c) [
      | inl old ↦
          let fits = IsSound-node s y old in
          FitsNode-moved fits (old_origin g x below y old fits.from) (old_only g x last y old fits.only)
          (kind_of-kept l (with_node-linked s x below last) keeps y.id (has_node-member l y old))
      | inr new ↦
          let own : FitsNode t h x = record { id_low = low; id_high = high; from = last.from; only = last.only; labels_rise = refl; values_fit = refl } in
          subst (FitsNode t h) new own
    ])
    s.arcs_differ
    (λ a c.
    let fits = IsSound-arc s a c in
    FitsArc-moved fits (Keeps-there keeps a.src.node fits.src_there) (Keeps-there keeps a.node fits.there)
    (kind_of-kept l (with_node-linked s x below last) keeps a.src.node fits.src_there)
    (kind_of-kept l (with_node-linked s x below last) keeps a.node fits.there) (omega arith))
    s.arcs_few
  where
    x : Node
    x = new_node n w

    h : Graph
    h = with_node g x

    l : IsLinked g
    l = IsLinked-from_sound s

    keeps : Keeps g h
    keeps = with_node-keeps g x

-- a plain node
pub with_plain-sound : {t : Tables} {g : Graph} → IsSound t g → (n : NodeId) (k : Kind) → IsTrue (ids_below g n.0) → 1 ≤ n.0 → n.0 ≤ max_nodes →
    IsSound t (with_node g (new_node n (origin.Plain k)))
with_plain-sound s n k below low high = with_node-sound s n (origin.Plain k) below low high (record { from = refl; only = refl; others = λ root original y c e. refl })

pub id_of-none : (o : Option Node) → id_of o ≡ None → o ≡ None
id_of-none None h = refl
id_of-none (Some x) h = let no : ⊥ = cc in absurd no

-- no node is the override node of an original in an override
pub override_in-none : (g : Graph) (root original : NodeId) → override_in g root original ≡ None → (y : Node) → Contains g.nodes y → overrides root original y.origin ≡ false
override_in-none g root original none y c =
    find_none (λ z. overrides root original z.origin) g.nodes y (id_of-none (find (λ z. overrides root original z.origin) g.nodes) none) c

-- an override node, of an original that has none in that override
pub with_over-sound : {t : Tables} {g : Graph} → IsSound t g → (n root original : NodeId) → IsTrue (ids_below g n.0) → 1 ≤ n.0 → n.0 ≤ max_nodes →
    IsTrue (has_node g original) → root.0 ≤ n.0 → IsTrue (names_itself root (node_at g root)) → override_in g root original ≡ None →
    IsSound t (with_node g (new_node n (origin.Over root original)))
with_over-sound {t} {g} s n root original below low high there upto names none =
    with_node-sound s n (origin.Over root original) below low high (record { from = from; only = only; others = others })
  where
    x : Node
    x = new_node n (origin.Over root original)

    root_own : IsTrue (names_itself root (node_at (with_node g x) root))
    root_own =
        elim (cases_Bool (same_node n root)) [
          | inl same ↦
              subst (λ (z : NodeId). IsTrue (names_itself root (node_at (with_node g x) z))) (same_node-is n root same)
              (ap (names_itself root) (with_node-new g x below) ∙ same_node-itself root)
          | inr other ↦ old_names g x below root (let apart : n.0 ≡ root.0 → ⊥ = eqb-false n.0 root.0 other in omega (arith, upto, apart)) names
        ]

    from : IsTrue (origin_fits (with_node g x) n (origin.Over root original))
    from = origin_fits-over (with_node g x) n root original (record {
      there = Keeps-there (with_node-keeps g x) original there;
      before = below-there g n.0 below original there;
      root_upto = upto;
      root_own = root_own;
    })

    only : IsTrue (is_only_override (with_node g x) (origin.Over root original))
    only =
        ap (λ (z : List Node). nat_le (length z) 1) (
        filter-append (λ z. overrides root original z.origin) g.nodes (x ∷ [])
        ∙ ap (λ (z : List Node). z ++ filter (λ k. overrides root original k.origin) (x ∷ [])) (
        filter_nothing (λ z. overrides root original z.origin) g.nodes (override_in-none g root original none))
        ∙ ap (λ b. cond b (x ∷ []) []) (overrides-itself root original))

    others : (r o : NodeId) (y : Node) → Contains g.nodes y → y.origin ≡ origin.Over r o → overrides r o (origin.Over root original) ≡ false
    others r o y c e =
        elim (cases_Bool (overrides r o (origin.Over root original))) [
          | inl same ↦
              let is : origin.Over root original ≡ origin.Over r o = overrides-is r o (origin.Over root original) same in
              let here : overrides root original y.origin ≡ true = ap (overrides root original) (e ∙ sym is) ∙ overrides-itself root original in
              absurd (true≢false (sym here ∙ override_in-none g root original none y c))
          | inr other ↦ other
        ]
