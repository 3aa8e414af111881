-- The steps that make override nodes one after another, Override and populating: the graph is sound
-- after each of them.
use Rattle.std.proofs.Common.{◌≡◌, ◌+◌, ◌≤◌, Bool, true, false, not, cond, ◌&&◌, List, [], ◌∷◌, Option, Some, None, Result, Ok, Err, filter, flat_map, find, is_some, IsTrue, nat_le, refl, sym, ap, ◌∙◌, inl, inr, arith, true≢false, leb-true}
use Rattle.std.proofs.lemmas.Bool.{and_parts, and_from, or_left, or_right, not-true, not_from_false, and_right, or_cases, cases_Bool}
use Rattle.std.proofs.lemmas.List.Folds.{find-append}
use Rattle.std.specs.Option.{option_or}
use Rattle.dg_base.specs.declared.ids.NodeId.{NodeId}
use Rattle.dg_base.specs.declared.ids.Label.{Label}
use Rattle.dg_base.specs.declared.ids.Endpoint.{Endpoint}
use Rattle.dg_base.specs.declared.graph.Node.{Node}
use Rattle.dg_base.specs.declared.graph.Origin.{Origin}
use Rattle.dg_base.specs.declared.graph.Origin.TheVariants as origin
use Rattle.dg_base.specs.declared.step.TxCode.{TxCode}
use Rattle.dg_base.specs.declared.step.TxCode.TheVariants as code
use Rattle.dg_base.specs.Same.{same_node}
use Rattle.dg_base.specs.Order.{is_node_among, nodes_once}
use Rattle.dg_base.specs.Tables.{Tables}
use Rattle.dg_base.specs.Graph.{Graph, node_at, has_node, overrides, id_of, override_in, explicit_sources}
use Rattle.dg_base.specs.Chain.{heirs}
use Rattle.dg_base.specs.Sources.{sources}
use Rattle.dg_base.specs.Sound.{IsSound, max_nodes, names_itself, ids_below, IsLinked}
use Rattle.dg_base.specs.Owned.{cascade_tree}
use Rattle.dg_base.specs.Refusal.{and_then}
use Rattle.dg_base.specs.Changes.{with_node, over_node}
use Rattle.dg_base.specs.Progress.{Progress, with_made, IsReady}
use Rattle.dg_base.specs.Populate.{override_all, firsts, lacking, populate_over, populate_inherited, populate_heir, populate_all, populate, MayOverride}
use Rattle.dg_base.specs.Steps.{there, override_step}
use Rattle.dg_laws.proofs.Members.{Contains-from_flat_map}
use Rattle.dg_laws.proofs.Among.{among_from_Contains, Contains_from_among, among-filter}
use Rattle.dg_laws.proofs.Ids.{same_node-is, same_node-itself, nodes_tell}
use Rattle.dg_laws.proofs.Nodes.{IsLinked-from_sound, has_node-at, node_at-absent}
use Rattle.dg_laws.proofs.Chains.{IsOriginal, IsOriginal-of}
use Rattle.dg_laws.proofs.Sources.{override_in-is, sources-ends}
use Rattle.dg_laws.proofs.GraphWalks.{cascade_tree-there, cascade_tree-once}
use Rattle.dg_laws.proofs.SoundParts.{Keeps-there, below-there, below-absent}
use Rattle.dg_laws.proofs.SoundNodes.{with_node-keeps, with_node-new, with_node-below, id_of-none, with_over-sound}
use Rattle.dg_laws.proofs.SoundSteps.{IsAfter, LeadsOn, IsThere, unchanged, after_that, led_to}

-- ---- override nodes, one after another

-- the progress with an override node more
abbrev pub overridden : Progress → NodeId → NodeId → Progress
overridden p root n = record { graph = with_node p.graph (over_node p.next root n); next = p.next + 1; made = p.made }

pub override_in-other : (g : Graph) (x : Node) (root m : NodeId) → override_in g root m ≡ None → overrides root m x.origin ≡ false → override_in (with_node g x) root m ≡ None
override_in-other g x root m none other =
    ap id_of (
    find-append (λ z. overrides root m z.origin) g.nodes (x ∷ [])
    ∙ ap (λ (o : Option Node). option_or o (find (λ z. overrides root m z.origin) (x ∷ []))) (id_of-none (find (λ z. overrides root m z.origin) g.nodes) none)
    ∙ ap (λ b. cond b (Some x) None) other)

-- the first of them gets its override node
pub MayOverride-sound : {t : Tables} {p : Progress} {root n : NodeId} {ns : List NodeId} → MayOverride t p root (n ∷ ns) → p.next ≤ max_nodes →
    IsSound t (with_node p.graph (over_node p.next root n))
MayOverride-sound {t} {p} {root} {n} {ns} m room =
    let first : IsTrue (is_node_among (n ∷ ns) n) = or_left _ _ (same_node-itself n) in
    with_over-sound m.ready.sound (record { 0 = p.next }) root n m.ready.below m.ready.some room (m.are_there n first) m.root_upto m.root_own (m.are_new n first)

-- and the others can follow
pub MayOverride-next : {t : Tables} {p : Progress} {root n : NodeId} {ns : List NodeId} → MayOverride t p root (n ∷ ns) → p.next ≤ max_nodes → MayOverride t (overridden p root n) root ns
MayOverride-next {t} {p} {root} {n} {ns} m room = record {
  ready = record { sound = sound; below = with_node-below p.graph x p.next m.ready.below refl; some = omega arith };
  root_upto = (let upto = m.root_upto in omega (arith, upto));
  root_own = (IsOriginal-of (IsLinked-from_sound sound) x.id x root n (with_node-new p.graph x m.ready.below) refl).root_own;
  are_there = λ k c. Keeps-there (with_node-keeps p.graph x) k (m.are_there k (or_right _ _ c));
  are_new = λ k c. override_in-other p.graph x root k (m.are_new k (or_right _ _ c)) (others k c);
  once = (and_parts (not (is_node_among ns n)) (nodes_once ns) m.once).1;
}
  where
    x : Node
    x = over_node p.next root n

    sound : IsSound t (with_node p.graph x)
    sound = MayOverride-sound m room

    others : (k : NodeId) → IsTrue (is_node_among ns k) → overrides root k (origin.Over root n) ≡ false
    others k c =
        elim (cases_Bool (same_node n k)) [
          | inl same ↦
              let here : is_node_among ns n ≡ true = ap (is_node_among ns) (same_node-is n k same) ∙ c in
              absurd (true≢false (sym here ∙ not-true _ (and_parts (not (is_node_among ns n)) (nodes_once ns) m.once).0))
          | inr other ↦ and_right (same_node root root) (same_node n k) other
        ]

pub override_all-leads : (ns : List NodeId) {t : Tables} {p : Progress} {root : NodeId} → MayOverride t p root ns → LeadsOn t p (override_all root ns p)
override_all-leads [] m = unchanged m.ready
override_all-leads (n ∷ ns) {t} {p} {root} m = by_test (nat_le p.next max_nodes) refl (λ k. override_all-leads ns k)
  where
    by_test : (b : Bool) → nat_le p.next max_nodes ≡ b → (MayOverride t (overridden p root n) root ns → LeadsOn t (overridden p root n) (override_all root ns (overridden p root n))) →
        LeadsOn t p (cond b (override_all root ns (overridden p root n)) (Err code.TooManyNodes))
    by_test true e rest =
        let next = MayOverride-next m (leb-true p.next max_nodes e) in
        let one : IsAfter t p (overridden p root n) = record { ready = next.ready; later = omega arith } in
        after_that one (override_all root ns (overridden p root n)) (rest next)
    by_test false e rest = tt

-- ---- Override

-- no node is in an override whose root's id isn't taken yet
pub override_in-fresh : {t : Tables} {g : Graph} → IsSound t g → (root m : NodeId) → IsTrue (ids_below g root.0) → override_in g root m ≡ None
override_in-fresh {t} {g} s root m below = by_answer (override_in g root m) refl
  where
    by_answer : (o : Option NodeId) → override_in g root m ≡ o → o ≡ None
    by_answer None e = refl
    by_answer (Some k) e =
        let l = IsLinked-from_sound s in
        let is = override_in-is l root m k e in
        let upto = (IsOriginal-of l k is.node root m is.at is.over).root_upto in
        let lt = below-there g root.0 below k (has_node-at g k is.node is.at) in
        absurd (omega (arith, upto, lt))

pub MayOverride-tree : {t : Tables} {p : Progress} → IsReady t p → (n : NodeId) → IsTrue (has_node p.graph n) → MayOverride t p (record { 0 = p.next }) (cascade_tree t p.graph n)
MayOverride-tree {t} {p} r n there = record {
  ready = r;
  root_upto = omega arith;
  root_own = ap (names_itself (record { 0 = p.next })) (node_at-absent p.graph (record { 0 = p.next }) (below-absent p.graph (record { 0 = p.next }) r.below));
  are_there = λ m c. cascade_tree-there (IsLinked-from_sound r.sound) t n m there c;
  are_new = λ m c. override_in-fresh r.sound (record { 0 = p.next }) m r.below;
  once = cascade_tree-once t p.graph n;
}

pub and_then-leads : (t : Tables) (p : Progress) (q : Result Progress TxCode) (f : Progress → Result Progress TxCode) → LeadsOn t p q → ((z : Progress) → IsReady t z → LeadsOn t z (f z)) →
    LeadsOn t p (and_then q f)
and_then-leads t p (Ok q) f h later = after_that h (f q) (later q h.ready)
and_then-leads t p (Err c) f h later = tt

-- one more that was made changes nothing of this
made-leads : {t : Tables} {q : Progress} → IsReady t q → (n : NodeId) → IsAfter t q (with_made q n)
made-leads {t} {q} r n = record { ready = record { sound = r.sound; below = r.below; some = r.some }; later = omega arith }

pub override_step-leads : {t : Tables} {p : Progress} → IsReady t p → (target : Option NodeId) → IsThere p.graph target → LeadsOn t p (override_step t p target)
override_step-leads r None h = tt
override_step-leads {t} {p} r (Some n) h =
    let root : NodeId = record { 0 = p.next } in
    and_then-leads t p (override_all root (cascade_tree t p.graph n) p) (λ q. Ok (with_made q root)) (override_all-leads (cascade_tree t p.graph n) (MayOverride-tree r n h))
    (λ q ready. made-leads ready root)

-- ---- populating

firsts-among : (ns : List NodeId) (m : NodeId) → IsTrue (is_node_among (firsts ns) m) → IsTrue (is_node_among ns m)
firsts-among [] m h = h
firsts-among (n ∷ ns) m h =
    elim (or_cases (same_node m n) (is_node_among (filter (λ k. not (same_node n k)) (firsts ns)) m) h) [
      | inl same ↦ or_left _ _ same
      | inr later ↦ or_right _ _ (firsts-among ns m (and_parts _ _ (sym (among-filter nodes_tell (λ k. not (same_node n k)) (firsts ns) m) ∙ later)).0)
    ]

nodes_once-filter : (q : NodeId → Bool) (ns : List NodeId) → IsTrue (nodes_once ns) → IsTrue (nodes_once (filter q ns))
nodes_once-filter q [] h = refl
nodes_once-filter q (n ∷ ns) h =
    let both = and_parts (not (is_node_among ns n)) (nodes_once ns) h in
    by_test (q n) both.0 (nodes_once-filter q ns both.1)
  where
    by_test : (b : Bool) → not (is_node_among ns n) ≡ true → IsTrue (nodes_once (filter q ns)) → IsTrue (nodes_once (cond b (n ∷ filter q ns) (filter q ns)))
    by_test true new rest = and_from _ _ (not_from_false _ (among-filter nodes_tell q ns n ∙ ap (λ b. b && q n) (not-true _ new))) rest
    by_test false new rest = rest

pub firsts-once : (ns : List NodeId) → IsTrue (nodes_once (firsts ns))
firsts-once [] = refl
firsts-once (n ∷ ns) =
    let left : is_node_among (filter (λ k. not (same_node n k)) (firsts ns)) n ≡ false =
    among-filter nodes_tell (λ k. not (same_node n k)) (firsts ns) n ∙ and_right (is_node_among (firsts ns) n) _ (ap not (same_node-itself n))
    in
    and_from _ _ (not_from_false _ left) (nodes_once-filter (λ k. not (same_node n k)) (firsts ns) (firsts-once ns))

none_since : (o : Option NodeId) → not (is_some o) ≡ true → o ≡ None
none_since None h = refl
none_since (Some m) h = absurd (true≢false (sym h))

-- what is lacking in an override: nodes that are there, each once, that have no override node in it
pub MayOverride-lacking : {t : Tables} {p : Progress} → IsReady t p → (h : NodeId) (x : Node) (root original : NodeId) → node_at p.graph h ≡ Some x → x.origin ≡ origin.Over root original →
    (i : Label) → MayOverride t p root (lacking t p.graph root (sources p.graph original i))
MayOverride-lacking {t} {p} r h x root original e o i = record {
  ready = r;
  root_upto = (let upto = is.root_upto in let lt = below-there p.graph p.next r.below h (has_node-at p.graph h x e) in omega (arith, upto, lt));
  root_own = is.root_own;
  are_there = λ m c. in_trees m (firsts-among trees m (parts m c).0);
  are_new = λ m c. none_since (override_in p.graph root m) (parts m c).1;
  once = nodes_once-filter (λ m. not (is_some (override_in p.graph root m))) (firsts trees) (firsts-once trees);
}
  where
    l : IsLinked p.graph
    l = IsLinked-from_sound r.sound

    is : IsOriginal p.graph h root original
    is = IsOriginal-of l h x root original e o

    trees : List NodeId
    trees = flat_map (λ s. cascade_tree t p.graph s.node) (sources p.graph original i)

    parts : (m : NodeId) → IsTrue (is_node_among (filter (λ k. not (is_some (override_in p.graph root k))) (firsts trees)) m) →
        (is_node_among (firsts trees) m ≡ true) × (not (is_some (override_in p.graph root m)) ≡ true)
    parts m c = and_parts _ _ (sym (among-filter nodes_tell (λ k. not (is_some (override_in p.graph root k))) (firsts trees) m) ∙ c)

    in_trees : (m : NodeId) → IsTrue (is_node_among trees m) → IsTrue (has_node p.graph m)
    in_trees m c =
        let s = Contains-from_flat_map (λ (z : Endpoint). cascade_tree t p.graph z.node) (sources p.graph original i) m (Contains_from_among nodes_tell trees m c) in
        cascade_tree-there l t s.0.node m (sources-ends l original i s.0 s.1) (among_from_Contains nodes_tell (cascade_tree t p.graph s.0.node) m s.2)

pub populate_heir-leads : {t : Tables} {p : Progress} → IsReady t p → (i : Label) (h : NodeId) → LeadsOn t p (populate_heir t p i h)
populate_heir-leads {t} {p} r i h = by_node (node_at p.graph h) refl (explicit_sources p.graph h i)
  where
    by_origin : (x : Node) (w : Origin) → node_at p.graph h ≡ Some x → x.origin ≡ w → LeadsOn t p (populate_over t p i w)
    by_origin x (origin.Plain kind) e o = unchanged r
    by_origin x (origin.Over root original) e o = override_all-leads (lacking t p.graph root (sources p.graph original i)) (MayOverride-lacking r h x root original e o i)

    by_node : (o : Option Node) → node_at p.graph h ≡ o → (ss : List Endpoint) → LeadsOn t p (populate_inherited t p i o ss)
    by_node None e ss = unchanged r
    by_node (Some x) e [] = by_origin x x.origin e refl
    by_node (Some x) e (s ∷ ss) = unchanged r

pub populate_all-leads : (hs : List NodeId) {t : Tables} {p : Progress} → IsReady t p → (i : Label) → LeadsOn t p (populate_all t i hs p)
populate_all-leads [] r i = unchanged r
populate_all-leads (h ∷ hs) {t} {p} r i = and_then-leads t p (populate_heir t p i h) (populate_all t i hs) (populate_heir-leads r i h) (λ z ready. populate_all-leads hs ready i)

pub populate-leads : {t : Tables} {p : Progress} → IsReady t p → (n : NodeId) (i : Label) → LeadsOn t p (populate t p n i)
populate-leads {t} {p} r n i = populate_all-leads (filter (λ h. not (same_node h n)) (heirs p.graph n)) r i

-- by an equation
pub populate_heir-after : {t : Tables} {p q : Progress} → IsReady t p → (i : Label) (h : NodeId) → populate_heir t p i h ≡ Ok q → IsAfter t p q
populate_heir-after {t} {p} r i h e = led_to (populate_heir t p i h) (populate_heir-leads r i h) e
