-- What reads no node, and that nothing reads a node that was just made.
use Rattle.std.proofs.Common.{◌≡◌, ◌+◌, ◌≤◌, Bool, true, false, cond, ◌||◌, List, [], ◌∷◌, ◌++◌, Some, None, flat_map, Contains, IsTrue, refl, sym, ap, ◌∙◌, inl, inr, append-nil, arith, true≢false}
use Rattle.std.proofs.lemmas.Bool.{cases_Bool}
use Rattle.std.specs.List.{list_any}
use Rattle.dg_base.specs.declared.ids.NodeId.{NodeId}
use Rattle.dg_base.specs.declared.ids.Label.{Label}
use Rattle.dg_base.specs.declared.ids.Kind.{Kind}
use Rattle.dg_base.specs.declared.ids.Endpoint.{Endpoint}
use Rattle.dg_base.specs.declared.graph.Node.{Node}
use Rattle.dg_base.specs.declared.graph.Origin.TheVariants as origin
use Rattle.dg_base.specs.declared.schema.ArgSpec.{ArgSpec}
use Rattle.dg_base.specs.declared.schema.ArgSpec.TheVariants as arg
use Rattle.dg_base.specs.Same.{same_node}
use Rattle.dg_base.specs.Order.{is_node_among}
use Rattle.dg_base.specs.Tables.{Tables}
use Rattle.dg_base.specs.Graph.{Graph, node_at, has_node}
use Rattle.dg_base.specs.Chain.{kind_of}
use Rattle.dg_base.specs.Sources.{sources}
use Rattle.dg_base.specs.Rule.{ends_of, endpoints_at}
use Rattle.dg_base.specs.Sound.{IsSound, ids_below, max_nodes}
use Rattle.dg_base.specs.Changes.{new_node, plain_node, with_node}
use Rattle.dg_base.specs.Progress.{Progress, IsReady}
use Rattle.dg_base.specs.Touched.{args_of, is_fed_by, is_input_arg, nodes_from, outputs, outputs_reading, readers_of_nodes, touched_nodes}
use Rattle.dg_laws.proofs.Members.{Contains-head, Contains-tail, filter_nothing}
use Rattle.dg_laws.proofs.Ids.{same_node-is}
use Rattle.dg_laws.proofs.Nodes.{IsLinked-from_sound, node_at-absent}
use Rattle.dg_laws.proofs.Sources.{explicit_sources-absent, sources-absent, sources-ends, sources-plain}
use Rattle.dg_laws.proofs.SoundParts.{below-absent}
use Rattle.dg_laws.proofs.SoundNodes.{with_node-absent, with_plain-sound}
use Rattle.dg_laws.proofs.SoundKept.{with_plain-sources}
use Rattle.dg_tx.proofs.NewIds.{Grows-one, nodes_from-grown}
use Rattle.dg_tx.proofs.IdRows.{ids_between-more, ids_between-none}

any_nothing : {X : Type 0} (p : X → Bool) (xs : List X) → ((x : X) → Contains xs x → p x ≡ false) → list_any p xs ≡ false
any_nothing p [] none = refl
any_nothing p (x ∷ xs) none =
    let here : p x ≡ false = none x (Contains-head x xs) in
    let rest : list_any p xs ≡ false = any_nothing p xs (λ y c. none y (Contains-tail x xs y c)) in
    ap (λ b. b || list_any p xs) here ∙ rest

flat_map_nothing : {X Y : Type 0} (f : X → List Y) (xs : List X) → ((x : X) → Contains xs x → f x ≡ []) → flat_map f xs ≡ []
flat_map_nothing f [] none = refl
flat_map_nothing {Y = Y} f (x ∷ xs) none =
    ap (λ (ys : List Y). ys ++ flat_map f xs) (none x (Contains-head x xs)) ∙ flat_map_nothing f xs (λ y c. none y (Contains-tail x xs y c))

reads_nothing : (holds : Label → Bool) → ((i : Label) → holds i ≡ false) → (a : ArgSpec) → is_input_arg holds a ≡ false
reads_nothing holds none (arg.Own l) = refl
reads_nothing holds none (arg.Input i) = none i
reads_nothing holds none arg.Open = refl

reading_nothing : (t : Tables) (g : Graph) (n : NodeId) (holds : Label → Bool) → ((i : Label) → holds i ≡ false) → outputs_reading t g (is_input_arg holds) n ≡ []
reading_nothing t g n holds none =
    ap (ends_of n) (
    filter_nothing (λ l. list_any (is_input_arg holds) (args_of t (kind_of g n) l)) (outputs t (kind_of g n))
    (λ l c. any_nothing (is_input_arg holds) (args_of t (kind_of g n) l) (λ a d. reads_nothing holds none a)))

-- nothing reads nodes that feed no input
pub readers-nothing : (t : Tables) (g : Graph) (ns : List NodeId) → ((x : Node) → Contains g.nodes x → (i : Label) → is_fed_by g ns x.id i ≡ false) → readers_of_nodes t g ns ≡ []
readers-nothing t g ns none =
    flat_map_nothing (λ (x : Node). outputs_reading t g (is_input_arg (is_fed_by g ns x.id)) x.id) g.nodes
    (λ x c. reading_nothing t g x.id (is_fed_by g ns x.id) (none x c))

pub touched_nodes-none : (t : Tables) (g : Graph) → touched_nodes t g [] ≡ []
touched_nodes-none t g = readers-nothing t g [] (λ x c i. any_nothing (λ (s : Endpoint). is_node_among [] s.node) (sources g x.id i) (λ s d. refl))

-- a node that was just made is no source
new_feeds_nothing : {t : Tables} {g : Graph} → IsSound t g → (n : NodeId) (k : Kind) → IsSound t (with_node g (new_node n (origin.Plain k))) → IsTrue (ids_below g n.0) → (m : NodeId) (i : Label) →
    is_fed_by (with_node g (new_node n (origin.Plain k))) (n ∷ []) m i ≡ false
new_feeds_nothing {t} {g} s n k r below m i = elim (cases_Bool (has_node g m)) [ inl is ↦ old is | inr isn't ↦ other isn't ]
  where
    h : Graph
    h = with_node g (new_node n (origin.Plain k))

    away : (z : NodeId) → IsTrue (has_node g z) → is_node_among (n ∷ []) z ≡ false
    away z there = elim (cases_Bool (same_node z n)) [
      | inl same ↦ absurd (true≢false (sym there ∙ ap (has_node g) (same_node-is z n same) ∙ below-absent g n below))
      | inr differ ↦ ap (λ b. b || false) differ
    ]

    old : has_node g m ≡ true → is_fed_by h (n ∷ []) m i ≡ false
    old is =
        ap (list_any (λ (z : Endpoint). is_node_among (n ∷ []) z.node)) (with_plain-sources n k s r m i is)
        ∙ any_nothing (λ (z : Endpoint). is_node_among (n ∷ []) z.node) (sources g m i) (λ z c. away z.node (sources-ends (IsLinked-from_sound s) m i z c))

    none : sources h m i ≡ [] → is_fed_by h (n ∷ []) m i ≡ false
    none e = ap (list_any (λ (z : Endpoint). is_node_among (n ∷ []) z.node)) e

    other : has_node g m ≡ false → is_fed_by h (n ∷ []) m i ≡ false
    other isn't =
        let at : node_at g m ≡ None = node_at-absent g m isn't in
        elim (cases_Bool (same_node n m)) [
          | inl same ↦
              let there : node_at h m ≡ Some (new_node n (origin.Plain k)) = with_node-absent g (new_node n (origin.Plain k)) m at ∙ ap (λ b. cond b (Some (new_node n (origin.Plain k))) None) same in
              none (sources-plain (IsLinked-from_sound r) m (new_node n (origin.Plain k)) k i there refl ∙ explicit_sources-absent (IsLinked-from_sound s) m i at)
          | inr differ ↦
              let gone : node_at h m ≡ None = with_node-absent g (new_node n (origin.Plain k)) m at ∙ ap (λ b. cond b (Some (new_node n (origin.Plain k))) None) differ in
              none (sources-absent h m i gone)
        ]

-- what Make touches: the endpoints of the new node
pub touched_new : {t : Tables} {p : Progress} → IsReady t p → p.next ≤ max_nodes → (k : Kind) →
    touched_nodes t (with_node p.graph (plain_node p.next k)) (nodes_from p.next (with_node p.graph (plain_node p.next k))) ≡ endpoints_at t (with_node p.graph (plain_node p.next k)) (record { 0 = p.next })
touched_new {t} {p} r room k =
    let n : NodeId = record { 0 = p.next } in
    let h : Graph = with_node p.graph (plain_node p.next k) in
    let sound : IsSound t h = with_plain-sound r.sound n k r.below r.some room in
    ap (touched_nodes t h) (
    nodes_from-grown r.below (Grows-one p (plain_node p.next k) [] refl)
    ∙ ids_between-more p.next (p.next + 1) (omega arith)
    ∙ ap (λ (ns : List NodeId). n ∷ ns) (ids_between-none (p.next + 1) (p.next + 1) refl))
    ∙ ap (λ (es : List Endpoint). (endpoints_at t h n ++ []) ++ es) (readers-nothing t h (n ∷ []) (λ x c i. new_feeds_nothing r.sound n k sound r.below x.id i))
    ∙ append-nil (endpoints_at t h n ++ [])
    ∙ append-nil (endpoints_at t h n)
