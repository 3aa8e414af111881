-- Override: each node below the overridden one has its override node from then on, below the root.
use Rattle.std.proofs.Common.{◌≡◌, ℕ, ◌+◌, Bool, true, false, cond, List, [], ◌∷◌, ◌++◌, Option, Some, None, Result, Ok, Err, find, IsTrue, nat_le, slice_get, refl, sym, ap, ◌∙◌, subst, inl, inr, append-nil, true≢false}
use Rattle.std.proofs.lemmas.Bool.{or_cases}
use Rattle.std.proofs.lemmas.List.Folds.{find-append}
use Rattle.std.specs.Option.{option_or}
use Rattle.dg_base.specs.declared.ids.NodeId.{NodeId}
use Rattle.dg_base.specs.declared.ids.Kind.{Kind}
use Rattle.dg_base.specs.declared.graph.Node.{Node}
use Rattle.dg_base.specs.declared.step.NodeRef.{NodeRef}
use Rattle.dg_base.specs.declared.step.NodeRef.{In}
use Rattle.dg_base.specs.declared.step.TxCode.{TxCode}
use Rattle.dg_base.specs.declared.step.TxCode.TheVariants as code
use Rattle.dg_base.specs.declared.step.Step.TheVariants as step
use Rattle.dg_base.specs.Same.{same_node}
use Rattle.dg_base.specs.Order.{is_node_among}
use Rattle.dg_base.specs.Tables.{Tables}
use Rattle.dg_base.specs.Graph.{Graph, overrides, id_of, override_in, has_node}
use Rattle.dg_base.specs.Chain.{kind_of}
use Rattle.dg_base.specs.Owned.{cascade_tree}
use Rattle.dg_base.specs.Sound.{max_nodes}
use Rattle.dg_base.specs.Refusal.{and_then}
use Rattle.dg_base.specs.Changes.{over_node, with_node}
use Rattle.dg_base.specs.Progress.{Progress, with_made, IsReady}
use Rattle.dg_base.specs.Populate.{override_all}
use Rattle.dg_base.specs.Steps.{override_named, id_named, step_of}
use Rattle.dg_laws.proofs.Ids.{same_node-is}
use Rattle.dg_laws.proofs.Nodes.{IsLinked-from_sound}
use Rattle.dg_laws.proofs.Chains.{kind-over}
use Rattle.dg_laws.proofs.Sources.{overrides-itself, override_in-is, override_in-there}
use Rattle.dg_laws.proofs.GraphWalks.{cascade_tree-first}
use Rattle.dg_laws.proofs.SoundParts.{kind_of-kept}
use Rattle.dg_laws.proofs.SoundNodes.{id_of-none}
use Rattle.dg_laws.proofs.SoundOverrides.{override_in-fresh}
use Rattle.dg_load.specs.Draft.{new}
use Rattle.dg_load_laws.proofs.Outcomes.{Leads, Leads-weaker}
use Rattle.dg_load_laws.proofs.Growth.{Grows, Leaves, override_all-grows}
use Rattle.dg_load_laws.proofs.Owning.{ArcsArePlain, Under, Under-over}
use Rattle.dg_load_laws.proofs.Naming.{Names, Reaches, node_named-is, id_named-in, id_named-later}

-- ---- each node of a list gets its override node

abbrev pub IsCovered : NodeId → Graph → NodeId → Type 0
IsCovered root g m = (o : NodeId) × (override_in g root m ≡ Some o)

over_node-covers : (g : Graph) (root n : NodeId) (next : ℕ) → IsCovered root (with_node g (over_node next root n)) n
over_node-covers g root n next = by_answer (find (λ z. overrides root n z.origin) g.nodes) refl
  where
    x : Node
    x = over_node next root n

    split : override_in (with_node g x) root n ≡ id_of (option_or (find (λ z. overrides root n z.origin) g.nodes) (find (λ z. overrides root n z.origin) (x ∷ [])))
    split = ap id_of (find-append (λ z. overrides root n z.origin) g.nodes (x ∷ []))

    by_answer : (o : Option Node) → find (λ z. overrides root n z.origin) g.nodes ≡ o → IsCovered root (with_node g x) n
    by_answer None e =
        (x.id, split ∙ ap (λ o. id_of (option_or o (find (λ z. overrides root n z.origin) (x ∷ [])))) e ∙ ap (λ b. id_of (cond b (Some x) None)) (overrides-itself root n))
    by_answer (Some y) e = (y.id, split ∙ ap (λ o. id_of (option_or o (find (λ z. overrides root n z.origin) (x ∷ [])))) e)

-- where it had none, it is the new node
over_node-first : (g : Graph) (root n : NodeId) (next : ℕ) → override_in g root n ≡ None → override_in (with_node g (over_node next root n)) root n ≡ Some (record { 0 = next })
over_node-first g root n next none =
    ap id_of (
    find-append (λ z. overrides root n z.origin) g.nodes (over_node next root n ∷ [])
    ∙ ap (λ (o : Option Node). option_or o (find (λ z. overrides root n z.origin) (over_node next root n ∷ []))) (id_of-none (find (λ z. overrides root n z.origin) g.nodes) none)
    ∙ ap (λ b. cond b (Some (over_node next root n)) None) (overrides-itself root n))

override_all-covers : (root : NodeId) (ns : List NodeId) (p : Progress) → Leads (λ q. (m : NodeId) → IsTrue (is_node_among ns m) → IsCovered root q.graph m) (override_all root ns p)
override_all-covers root [] p = λ m none. absurd (true≢false (sym none))
override_all-covers root (n ∷ ns) p =
    by_test (nat_le p.next max_nodes) (override_all-covers root ns over) (override_all-grows root ns over)
  where
    over : Progress
    over = record { graph = with_node p.graph (over_node p.next root n); next = p.next + 1; made = p.made }

    by_outcome : (r : Result Progress TxCode) → Leads (λ q. (m : NodeId) → IsTrue (is_node_among ns m) → IsCovered root q.graph m) r → Leads (Grows [] over) r →
        Leads (λ q. (m : NodeId) → IsTrue (is_node_among (n ∷ ns) m) → IsCovered root q.graph m) r
    by_outcome (Ok q) covers grows =
        λ m among.
        elim (or_cases (same_node m n) (is_node_among ns m) among) [
          | inl same ↦
              let first = over_node-covers p.graph root n p.next in
              (first.0, ap (override_in q.graph root) (same_node-is m n same) ∙ grows.overs root n first.0 first.1)
          | inr later ↦ covers m later
        ]
    by_outcome (Err c) covers grows = covers

    by_test : (b : Bool) → Leads (λ q. (m : NodeId) → IsTrue (is_node_among ns m) → IsCovered root q.graph m) (override_all root ns over) → Leads (Grows [] over) (override_all root ns over) →
        Leads (λ q. (m : NodeId) → IsTrue (is_node_among (n ∷ ns) m) → IsCovered root q.graph m) (cond b (override_all root ns over) (Err code.TooManyNodes))
    by_test true covers grows = by_outcome (override_all root ns over) covers grows
    by_test false covers grows = tt

-- the first of the list gets the next id
override_all-first : (root n : NodeId) (ns : List NodeId) (p : Progress) → override_in p.graph root n ≡ None →
    Leads (λ q. override_in q.graph root n ≡ Some (record { 0 = p.next })) (override_all root (n ∷ ns) p)
override_all-first root n ns p none = by_test (nat_le p.next max_nodes) (override_all-grows root ns over)
  where
    over : Progress
    over = record { graph = with_node p.graph (over_node p.next root n); next = p.next + 1; made = p.made }

    by_test : (b : Bool) → Leads (Grows [] over) (override_all root ns over) → Leads (λ q. override_in q.graph root n ≡ Some (record { 0 = p.next })) (cond b (override_all root ns over) (Err code.TooManyNodes))
    by_test true grows =
        Leads-weaker (Grows [] over) (λ q. override_in q.graph root n ≡ Some (record { 0 = p.next })) (override_all root ns over) grows
        (λ q g. g.overs root n (record { 0 = p.next }) (over_node-first p.graph root n p.next none))
    by_test false grows = tt

-- ---- the step

-- a node more, which is the override node of the overridden one, and in whose override each node of the cascade tree has its own
pub record Overrides (t : Tables) (p : Progress) (n : NodeId) (q : Progress) : Type 0 where
  pub grows : Grows (record { 0 = p.next } ∷ []) p q
  pub covers : (m : NodeId) → IsTrue (is_node_among (cascade_tree t p.graph n) m) → IsCovered (record { 0 = p.next }) q.graph m
  pub first : override_in q.graph (record { 0 = p.next }) n ≡ Some (record { 0 = p.next })

pub override-leads : (t : Tables) {p : Progress} {r : NodeRef} {kind : Kind} → IsReady t p → (n : Names p r kind) → Leads (Overrides t p n.node) (step_of t p (step.Override r))
override-leads t {p} {r} {kind} ready n =
    rw (node_named-is n) (
    by_outcome (override_all root tree p) (override_all-grows root tree p) (override_all-covers root tree p)
    (subst (λ ns. Leads (λ q. override_in q.graph root n.node ≡ Some root) (override_all root ns p)) (sym begins.1)
    (override_all-first root n.node begins.0 p (override_in-fresh ready.sound root n.node ready.below))))
  where
    root : NodeId
    root = record { 0 = p.next }

    tree : List NodeId
    tree = cascade_tree t p.graph n.node

    begins : (rest : List NodeId) × (tree ≡ n.node ∷ rest)
    begins = cascade_tree-first t p.graph n.node

    by_outcome : (o : Result Progress TxCode) → Leads (Grows [] p) o → Leads (λ q. (m : NodeId) → IsTrue (is_node_among tree m) → IsCovered root q.graph m) o →
        Leads (λ q. override_in q.graph root n.node ≡ Some root) o → Leads (Overrides t p n.node) (and_then o (λ q. Ok (with_made q root)))
    by_outcome (Ok q) grows covers first = record {
      grows = record { made = ap (λ ns. ns ++ root ∷ []) (grows.made ∙ append-nil p.made); keeps = grows.keeps; overs = grows.overs; still = grows.still };
      covers = covers;
      first = first;
    }
    by_outcome (Err c) grows covers first = grows

-- ---- what is named from then on

module _ (t : Tables) {k : Kind} {p q : Progress} (n root : NodeId) {more : List NodeId} (a : IsReady t p) (b : IsReady t q) (plain : ArcsArePlain p.graph) (g : Leaves k more p q)
    (covers : (m : NodeId) → IsTrue (is_node_among (cascade_tree t p.graph n) m) → IsCovered root q.graph m) (first : override_in q.graph root n ≡ Some root) where
  -- the root, which is of the kind of the overridden node
  pub names-root : (over : NodeRef) (kind : Kind) → id_named q over ≡ Some root → IsTrue (has_node p.graph n) → kind_of p.graph n ≡ Some kind → Names q over kind
  names-root over kind e there is =
      let l = IsLinked-from_sound b.sound in
      let x = override_in-is l root n root first in
      record {
        node = root;
        at = e;
        there = override_in-there l root n root first;
        is = kind-over l root x.node root n x.at x.over ∙ kind_of-kept (IsLinked-from_sound a.sound) l g.keeps n there ∙ is;
      }

  -- the override node of what stands below
  pub names-in : (over : ℕ) (r : NodeRef) (kind : Kind) → slice_get q.made over ≡ Some root → (is : Names p r kind) → Under t p.graph n is.node → Reaches t kind q over (In (new over) r)
  names-in over r kind e is under =
      let l = IsLinked-from_sound b.sound in
      let y = Under-over a b g root n is.node under plain root first covers in
      let x = override_in-is l root is.node y.0 y.1 in
      record {
        from = root;
        at_from = e;
        to = record {
          node = y.0;
          at = id_named-in q (new over) r ∙ ap (λ z. override_named q.graph z (id_named q r)) e ∙ ap (override_named q.graph (Some root)) (id_named-later g r is.node is.at) ∙ y.1;
          there = override_in-there l root is.node y.0 y.1;
          is = kind-over l y.0 x.node root is.node x.at x.over ∙ kind_of-kept (IsLinked-from_sound a.sound) l g.keeps is.node is.there ∙ is.is;
        };
        under = y.2;
      }
