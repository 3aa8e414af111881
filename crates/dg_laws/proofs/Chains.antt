-- Chains and kinds in a linked graph: each is its node's, and then that of the original.
use Rattle.std.proofs.Common.{◌≡◌, ℕ, zero, suc, ◌<◌, ◌≤◌, ◌⊎◌, true, false, ◌||◌, List, [], ◌∷◌, Option, Some, None, length, is_some, Contains, IsTrue, nat_lt, nat_le, refl, sym, ap, ◌∙◌, subst, inl, inr, arith, true≢false, eq-eqb, ltb-true, leb-true, ◌&&◌}
use Rattle.std.proofs.Math.Bool.{or-false}
use Rattle.std.proofs.lemmas.Bool.{and_parts}
use Rattle.dg_base.specs.declared.ids.NodeId.{NodeId}
use Rattle.dg_base.specs.declared.ids.Kind.{Kind}
use Rattle.dg_base.specs.declared.graph.Node.{Node}
use Rattle.dg_base.specs.declared.graph.Origin.{Origin}
use Rattle.dg_base.specs.declared.graph.Origin.TheVariants as origin
use Rattle.dg_base.specs.Same.{same_node}
use Rattle.dg_base.specs.Graph.{Graph, node_at, has_node}
use Rattle.dg_base.specs.Chain.{above_origin, chain_from, chain_within, chain, kind_by, kind_along, kind_of, holds}
use Rattle.dg_base.specs.Sound.{IsLinked, names_itself, origin_fits}
use Rattle.dg_laws.proofs.Members.{Contains-cases, Contains-none, list_all_at, list_any_gives}
use Rattle.dg_laws.proofs.Ids.{same_node-is}
use Rattle.dg_laws.proofs.Nodes.{node_at-in, node_at-id, node_at-cases, node_at-there, has_node-at, has_node-member, rank, rank-le-length, rank-lt-rank, rank-positive}

-- ---- originals

-- what a sound graph says of the original and the root of an override node
pub record IsOriginal (g : Graph) (n root original : NodeId) : Type 0 where
  pub there : IsTrue (has_node g original)
  pub before : original.0 < n.0
  pub root_upto : root.0 ≤ n.0
  pub root_own : IsTrue (names_itself root (node_at g root))

pub IsOriginal-fits : (g : Graph) (n root original : NodeId) → IsTrue (origin_fits g n (origin.Over root original)) → IsOriginal g n root original
IsOriginal-fits g n root original h =
    let both = and_parts (has_node g original && nat_lt original.0 n.0) (nat_le root.0 n.0 && names_itself root (node_at g root)) h in
    let first = and_parts (has_node g original) (nat_lt original.0 n.0) both.0 in
    let second = and_parts (nat_le root.0 n.0) (names_itself root (node_at g root)) both.1 in
    record { there = first.0; before = ltb-true original.0 n.0 first.1; root_upto = leb-true root.0 n.0 second.0; root_own = second.1 }

pub IsOriginal-of : {g : Graph} → IsLinked g → (n : NodeId) (x : Node) (root original : NodeId) → node_at g n ≡ Some x → x.origin ≡ origin.Over root original →
    IsOriginal g n root original
IsOriginal-of {g} l n x root original e o =
    let fits : origin_fits g x.id x.origin ≡ true = list_all_at (λ z. origin_fits g z.id z.origin) g.nodes x l.origins_fit (node_at-in g n x e) in
    let named : origin_fits g n x.origin ≡ true = subst (λ (m : NodeId). origin_fits g m x.origin ≡ true) (node_at-id g n x e) fits in
    let at : origin_fits g n (origin.Over root original) ≡ true = subst (λ (w : Origin). origin_fits g n w ≡ true) o named in
    IsOriginal-fits g n root original at

-- ---- chains

chain_within-absent : (k : ℕ) (g : Graph) (n : NodeId) → node_at g n ≡ None → chain_within k g n ≡ []
chain_within-absent zero g n e = refl
chain_within-absent (suc k) g n e = ap (λ (o : Option Node). chain_from o (chain_within k g)) e

-- two functions that agree above a node give one chain
chain_from-same : {g : Graph} → IsLinked g → (n : NodeId) (f h : NodeId → List Node) →
    ((o : NodeId) → IsTrue (has_node g o) → o.0 < n.0 → f o ≡ h o) → chain_from (node_at g n) f ≡ chain_from (node_at g n) h
chain_from-same {g} l n f h agree = by_node (node_at g n) refl
  where
    by_origin : (x : Node) (w : Origin) → node_at g n ≡ Some x → x.origin ≡ w → above_origin w f ≡ above_origin w h
    by_origin x (origin.Plain kind) e o = refl
    by_origin x (origin.Over root original) e o = let is = IsOriginal-of l n x root original e o in agree original is.there is.before

    by_node : (o : Option Node) → node_at g n ≡ o → chain_from o f ≡ chain_from o h
    by_node None e = refl
    by_node (Some x) e = ap (λ (z : List Node). x ∷ z) (by_origin x x.origin e refl)

lower : (r s j : ℕ) → r < s → s ≤ suc j → r ≤ j
lower r s j a b = omega arith

-- as soon as the number is the rank, more changes nothing
pub chain_within-same : {g : Graph} → IsLinked g → (j k : ℕ) (n : NodeId) → rank g n ≤ j → rank g n ≤ k → chain_within j g n ≡ chain_within k g n
chain_within-same {g} l zero k n a b =
    elim (node_at-cases g n) [
      | inl there ↦ let some = rank-positive g n (has_node-at g n there.0 there.1) in absurd (omega arith)
      | inr none ↦ sym (chain_within-absent k g n none)
    ]
chain_within-same {g} l (suc j) zero n a b =
    elim (node_at-cases g n) [
      | inl there ↦ let some = rank-positive g n (has_node-at g n there.0 there.1) in absurd (omega arith)
      | inr none ↦ chain_within-absent (suc j) g n none
    ]
chain_within-same {g} l (suc j) (suc k) n a b = by_node (node_at-cases g n) (λ o c d. chain_within-same l j k o c d)
  where
    by_node : ((x : Node) × (node_at g n ≡ Some x)) ⊎ (node_at g n ≡ None) → ((o : NodeId) → rank g o ≤ j → rank g o ≤ k → chain_within j g o ≡ chain_within k g o) →
        chain_from (node_at g n) (chain_within j g) ≡ chain_from (node_at g n) (chain_within k g)
    by_node (inl there) same =
        chain_from-same l n (chain_within j g) (chain_within k g) (λ o is before.
        let less = rank-lt-rank g o n before (has_node-at g n there.0 there.1) in
        same o (lower _ _ j less a) (lower _ _ k less b))
    by_node (inr none) same = ap (λ (o : Option Node). chain_from o (chain_within j g)) none ∙ sym (ap (λ (o : Option Node). chain_from o (chain_within k g)) none)

-- a chain is its node and the chain of the original
pub chain-step : {g : Graph} → IsLinked g → (n : NodeId) → chain g n ≡ chain_from (node_at g n) (chain g)
chain-step {g} l n =
    let within = rank-le-length g n in
    chain_within-same l (length g.nodes) (suc (length g.nodes)) n within (omega arith)

pub chain-at : {g : Graph} → IsLinked g → (n : NodeId) (x : Node) → node_at g n ≡ Some x → chain g n ≡ x ∷ above_origin x.origin (chain g)
chain-at {g} l n x e = chain-step l n ∙ ap (λ (o : Option Node). chain_from o (chain g)) e

pub chain-absent : (g : Graph) (n : NodeId) → node_at g n ≡ None → chain g n ≡ []
chain-absent g n e = chain_within-absent (length g.nodes) g n e

pub chain-plain : {g : Graph} → IsLinked g → (n : NodeId) (x : Node) (k : Kind) → node_at g n ≡ Some x → x.origin ≡ origin.Plain k → chain g n ≡ x ∷ []
chain-plain {g} l n x k e o = chain-at l n x e ∙ ap (λ (w : Origin). x ∷ above_origin w (chain g)) o

pub chain-over : {g : Graph} → IsLinked g → (n : NodeId) (x : Node) (root original : NodeId) → node_at g n ≡ Some x → x.origin ≡ origin.Over root original →
    chain g n ≡ x ∷ chain g original
chain-over {g} l n x root original e o = chain-at l n x e ∙ ap (λ (w : Origin). x ∷ above_origin w (chain g)) o

-- what holds of a node wherever it holds of its original, holds of each node
pub along_originals : {g : Graph} → IsLinked g → (P : NodeId → Type 0) →
    ((n : NodeId) (x : Node) → node_at g n ≡ Some x → ((root original : NodeId) → x.origin ≡ origin.Over root original → P original) → P n) →
    (n : NodeId) → IsTrue (has_node g n) → P n
along_originals {g} l P step n there = by_rank (rank g n) n there (omega arith)
  where
    by_rank : (k : ℕ) (n : NodeId) → IsTrue (has_node g n) → rank g n ≤ k → P n
    by_rank zero n there h = let some = rank-positive g n there in absurd (omega arith)
    by_rank (suc k) n there h =
        let x = node_at-there g n there in
        step n x.0 x.1 (λ root original o.
        let is = IsOriginal-of l n x.0 root original x.1 o in
        by_rank k original is.there (lower _ _ k (rank-lt-rank g original n is.before there) h))

-- ---- kinds

pub kind-plain : {g : Graph} → IsLinked g → (n : NodeId) (x : Node) (k : Kind) → node_at g n ≡ Some x → x.origin ≡ origin.Plain k → kind_of g n ≡ Some k
kind-plain {g} l n x k e o = ap kind_along (chain-plain l n x k e o) ∙ ap (λ (w : Origin). kind_by w None) o

pub kind-over : {g : Graph} → IsLinked g → (n : NodeId) (x : Node) (root original : NodeId) → node_at g n ≡ Some x → x.origin ≡ origin.Over root original →
    kind_of g n ≡ kind_of g original
kind-over {g} l n x root original e o =
    ap kind_along (chain-over l n x root original e o) ∙ ap (λ (w : Origin). kind_by w (kind_along (chain g original))) o

pub kind-absent : (g : Graph) (n : NodeId) → node_at g n ≡ None → kind_of g n ≡ None
kind-absent g n e = ap kind_along (chain-absent g n e)

pub kind-there : {g : Graph} → IsLinked g → (n : NodeId) → IsTrue (has_node g n) → (k : Kind) × (kind_of g n ≡ Some k)
kind-there {g} l n there = along_originals l (λ n. (k : Kind) × (kind_of g n ≡ Some k)) step n there
  where
    by_origin : (n : NodeId) (x : Node) (w : Origin) → node_at g n ≡ Some x → x.origin ≡ w →
        ((root original : NodeId) → x.origin ≡ origin.Over root original → (k : Kind) × (kind_of g original ≡ Some k)) → (k : Kind) × (kind_of g n ≡ Some k)
    by_origin n x (origin.Plain kind) e o above = (kind, kind-plain l n x kind e o)
    by_origin n x (origin.Over root original) e o above = let r = above root original o in (r.0, kind-over l n x root original e o ∙ r.1)

    step : (n : NodeId) (x : Node) → node_at g n ≡ Some x →
        ((root original : NodeId) → x.origin ≡ origin.Over root original → (k : Kind) × (kind_of g original ≡ Some k)) → (k : Kind) × (kind_of g n ≡ Some k)
    step n x e above = by_origin n x x.origin e refl above

-- a node is there just where it has a kind
pub is_some-kind_of : {g : Graph} → IsLinked g → (n : NodeId) → is_some (kind_of g n) ≡ has_node g n
is_some-kind_of {g} l n =
    elim (node_at-cases g n) [
      | inl there ↦ let k = kind-there l n (has_node-at g n there.0 there.1) in ap is_some k.1 ∙ sym (ap is_some there.1)
      | inr none ↦ ap is_some (kind-absent g n none) ∙ sym (ap is_some none)
    ]

-- ---- members of a chain

pub chain_within-members : (k : ℕ) (g : Graph) (n : NodeId) (x : Node) → Contains (chain_within k g n) x → Contains g.nodes x
chain_within-members zero g n x c = Contains-none x c
chain_within-members (suc k) g n x c = by_node (node_at g n) refl c (λ o d. chain_within-members k g o x d)
  where
    by_origin : (w : Origin) → Contains (above_origin w (chain_within k g)) x → ((o : NodeId) → Contains (chain_within k g o) x → Contains g.nodes x) → Contains g.nodes x
    by_origin (origin.Plain kind) c above = Contains-none x c
    by_origin (origin.Over root original) c above = above original c

    by_node : (o : Option Node) → node_at g n ≡ o → Contains (chain_from o (chain_within k g)) x → ((o : NodeId) → Contains (chain_within k g o) x → Contains g.nodes x) → Contains g.nodes x
    by_node None e c above = Contains-none x c
    by_node (Some y) e c above =
        elim (Contains-cases y (above_origin y.origin (chain_within k g)) x c) [
          | inl is ↦ subst (Contains g.nodes) is (node_at-in g n y e)
          | inr rest ↦ by_origin y.origin rest above
        ]

pub chain-members : (g : Graph) (n : NodeId) (x : Node) → Contains (chain g n) x → Contains g.nodes x
chain-members g n x c = chain_within-members (length g.nodes) g n x c

-- a chain that holds an id holds a node of the graph
pub holds-there : {g : Graph} → IsLinked g → (n m : NodeId) → holds (chain g n) m ≡ true → IsTrue (has_node g m)
holds-there {g} l n m h =
    let x = list_any_gives (λ z. same_node z.id m) (chain g n) h in
    subst (λ (k : NodeId). IsTrue (has_node g k)) (same_node-is x.0.id m x.2) (has_node-member l x.0 (chain-members g n x.0 x.1))

-- only a node that is there has a chain
pub holds-from : (g : Graph) (n m : NodeId) → holds (chain g n) m ≡ true → IsTrue (has_node g n)
holds-from g n m h =
    elim (node_at-cases g n) [
      | inl there ↦ has_node-at g n there.0 there.1
      | inr none ↦
          let nothing : holds (chain g n) m ≡ false = ap (λ (z : List Node). holds z m) (chain-absent g n none) in
          absurd (true≢false (sym h ∙ nothing))
    ]

pub holds-itself : {g : Graph} → IsLinked g → (n : NodeId) → IsTrue (has_node g n) → holds (chain g n) n ≡ true
holds-itself {g} l n there =
    let x = node_at-there g n there in
    let same : same_node x.0.id n ≡ true = eq-eqb x.0.id.0 n.0 (ap (λ (z : NodeId). z.0) (node_at-id g n x.0 x.1)) in
    ap (λ (z : List Node). holds z n) (chain-at l n x.0 x.1) ∙ ap (λ b. b || holds (above_origin x.0.origin (chain g)) n) same

pub holds-over : {g : Graph} → IsLinked g → (n : NodeId) (x : Node) (root original m : NodeId) → node_at g n ≡ Some x → x.origin ≡ origin.Over root original →
    holds (chain g n) m ≡ (same_node n m || holds (chain g original) m)
holds-over {g} l n x root original m e o =
    ap (λ (z : List Node). holds z m) (chain-over l n x root original e o)
    ∙ ap (λ (k : NodeId). same_node k m || holds (chain g original) m) (node_at-id g n x e)

pub holds-plain : {g : Graph} → IsLinked g → (n : NodeId) (x : Node) (k : Kind) (m : NodeId) → node_at g n ≡ Some x → x.origin ≡ origin.Plain k →
    holds (chain g n) m ≡ same_node n m
holds-plain {g} l n x k m e o =
    ap (λ (z : List Node). holds z m) (chain-plain l n x k e o)
    ∙ ap (λ (j : NodeId). same_node j m || false) (node_at-id g n x e)
    ∙ or-false (same_node n m)
