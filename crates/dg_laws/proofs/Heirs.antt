-- The heirs of a node: the nodes whose chain holds it.
use Rattle.std.proofs.Common.{◌≡◌, ℕ, ◌⊎◌, Bool, true, false, cond, ◌&&◌, ◌||◌, List, [], ◌∷◌, Some, None, map, filter, is_some, Contains, IsTrue, refl, sym, ap, ◌∙◌, subst, inl, inr, true≢false}
use Rattle.std.proofs.lemmas.Bool.{and_right, false_from_ne_true}
use Rattle.dg_base.specs.declared.ids.NodeId.{NodeId}
use Rattle.dg_base.specs.declared.graph.Node.{Node}
use Rattle.dg_base.specs.declared.graph.Origin.{Origin}
use Rattle.dg_base.specs.declared.graph.Origin.TheVariants as origin
use Rattle.dg_base.specs.Same.{same_node}
use Rattle.dg_base.specs.Graph.{Graph, node_at, has_node}
use Rattle.dg_base.specs.Chain.{chain, holds, heirs}
use Rattle.dg_base.specs.Order.{rises, is_node_among}
use Rattle.dg_base.specs.Sound.{IsLinked}
use Rattle.dg_laws.proofs.Members.{filter_nothing}
use Rattle.dg_laws.proofs.Among.{among_from_Contains, Contains_from_among}
use Rattle.dg_laws.proofs.Rising.{rises-filter}
use Rattle.dg_laws.proofs.Ids.{same_node-is, nodes_tell}
use Rattle.dg_laws.proofs.Nodes.{node_at-cases, node_at-there, has_node-at, has_node-among, numbers}
use Rattle.dg_laws.proofs.Chains.{chain-absent, holds-there, holds-from, holds-itself, holds-over, holds-plain}

among_filtered : (q : NodeId → Bool) (xs : List Node) (m : NodeId) →
    is_node_among (map (λ x. x.id) (filter (λ x. q x.id) xs)) m ≡ (is_node_among (map (λ x. x.id) xs) m && q m)
among_filtered q [] m = refl
among_filtered q (x ∷ xs) m = by_tests (q x.id) (same_node m x.id) refl refl (among_filtered q xs m)
  where
    by_tests : (a b : Bool) → q x.id ≡ a → same_node m x.id ≡ b →
        is_node_among (map (λ z. z.id) (filter (λ z. q z.id) xs)) m ≡ (is_node_among (map (λ z. z.id) xs) m && q m) →
        is_node_among (map (λ z. z.id) (cond a (x ∷ filter (λ z. q z.id) xs) (filter (λ z. q z.id) xs))) m ≡ ((b || is_node_among (map (λ z. z.id) xs) m) && q m)
    by_tests true true e f rest =
        let passes : q m ≡ true = ap q (same_node-is m x.id f) ∙ e in
        rw (f, passes) refl
    by_tests true false e f rest = rw f rest
    by_tests false true e f rest =
        let fails : q m ≡ false = ap q (same_node-is m x.id f) ∙ e in
        rest ∙ and_right (is_node_among (map (λ z. z.id) xs) m) (q m) fails ∙ sym fails
    by_tests false false e f rest = rest

-- the heirs of a node are just the nodes whose chain holds it
pub heirs-among : (g : Graph) (n m : NodeId) → is_node_among (heirs g n) m ≡ holds (chain g m) n
heirs-among g n m =
    among_filtered (λ k. holds (chain g k) n) g.nodes m
    ∙ ap (λ b. b && holds (chain g m) n) (has_node-among g m)
    ∙ by_node (node_at-cases g m)
  where
    by_node : ((x : Node) × (node_at g m ≡ Some x)) ⊎ (node_at g m ≡ None) → (has_node g m && holds (chain g m) n) ≡ holds (chain g m) n
    by_node (inl there) = ap (λ b. b && holds (chain g m) n) (has_node-at g m there.0 there.1)
    by_node (inr none) =
        let nothing : holds (chain g m) n ≡ false = ap (λ (z : List Node). holds z n) (chain-absent g m none) in
        and_right (has_node g m) (holds (chain g m) n) nothing ∙ sym nothing

pub heirs-holds : (g : Graph) (n m : NodeId) → Contains (heirs g n) m → holds (chain g m) n ≡ true
heirs-holds g n m c = sym (heirs-among g n m) ∙ among_from_Contains nodes_tell (heirs g n) m c

pub Contains-heirs : (g : Graph) (n m : NodeId) → holds (chain g m) n ≡ true → Contains (heirs g n) m
Contains-heirs g n m h = Contains_from_among nodes_tell (heirs g n) m (heirs-among g n m ∙ h)

pub heirs-there : (g : Graph) (n m : NodeId) → Contains (heirs g n) m → IsTrue (has_node g m)
heirs-there g n m c = holds-from g m n (heirs-holds g n m c)

pub heirs-itself : {g : Graph} → IsLinked g → (n : NodeId) → IsTrue (has_node g n) → Contains (heirs g n) n
heirs-itself {g} l n there = Contains-heirs g n n (holds-itself l n there)

pub heirs-absent : {g : Graph} → IsLinked g → (n : NodeId) → node_at g n ≡ None → heirs g n ≡ []
heirs-absent {g} l n none =
    ap (map (λ x. x.id)) (filter_nothing (λ x. holds (chain g x.id) n) g.nodes (λ x c. false_from_ne_true _ (λ h.
    true≢false (sym (holds-there l x.id n h) ∙ ap is_some none))))

-- an heir that is another node is an override node, and its original is an heir too
pub record IsHeirOver (g : Graph) (n m : NodeId) : Type 0 where
  pub node : Node
  pub root : NodeId
  pub original : NodeId
  pub at : node_at g m ≡ Some node
  pub over : node.origin ≡ origin.Over root original
  pub holds : holds (chain g original) n ≡ true

pub heirs-other : {g : Graph} → IsLinked g → (n m : NodeId) → Contains (heirs g n) m → same_node m n ≡ false → IsHeirOver g n m
heirs-other {g} l n m c other = by_origin there.0 there.0.origin there.1 refl
  where
    there : (x : Node) × (node_at g m ≡ Some x)
    there = node_at-there g m (heirs-there g n m c)

    by_origin : (x : Node) (w : Origin) → node_at g m ≡ Some x → x.origin ≡ w → IsHeirOver g n m
    by_origin x (origin.Plain kind) e o = absurd (true≢false (sym (heirs-holds g n m c) ∙ holds-plain l m x kind n e o ∙ other))
    by_origin x (origin.Over root original) e o = record {
      node = x;
      root = root;
      original = original;
      at = e;
      over = o;
      holds = ap (λ b. b || holds (chain g original) n) (sym other) ∙ sym (holds-over l m x root original n e o) ∙ heirs-holds g n m c;
    }

pub heirs-rise : {g : Graph} → IsLinked g → (n : NodeId) → IsTrue (rises (map (λ m. m.0) (heirs g n)))
heirs-rise {g} l n =
    subst (λ (z : List ℕ). IsTrue (rises z)) (sym (numbers (filter (λ x. holds (chain g x.id) n) g.nodes))) (rises-filter (λ x. x.id.0) (λ x. holds (chain g x.id) n) g.nodes l.ids_rise)
