-- The list of nodes that a map by id shows: what a look-up and a change of the map are in the list.
use Rattle.std.proofs.Common.{◌≡◌, ℕ, zero, suc, Bool, true, false, cond, List, [], ◌∷◌, Option, Some, None, option_map, map, filter, find, is_some, nat_lt, nat_cmp, is_eq, refl, sym, ap, ◌∙◌, arith}
use Rattle.std.proofs.lemmas.Bool.Decides.{nat_tests}
use Rattle.std.specs.List.{AllByRecursion, slice_get}
use Rattle.std.specs.List.Sorted.{IsStrictlySortedBy}
use Rattle.std.specs.Map.{keys_of, lookup, remove_entry}
use Rattle.std.specs.BTreeMap.{is_at, insert_entry}
use Rattle.std.specs.Ordering.{match_ordering}
use Rattle.std.specs.declared.cmp.Ordering.{Ordering}
use Rattle.std.specs.declared.cmp.Ordering.TheVariants.{Less, Equal, Greater}
use Rattle.dg_base.specs.declared.ids.NodeId.{NodeId}
use Rattle.dg_base.specs.declared.graph.Node.{Node}
use Rattle.dg_base.specs.declared.graph.Origin.{Origin}
use Rattle.dg_base.specs.Same.{same_node}
use Rattle.dg_base.specs.Graph.{node_at, has_node, id_of}
use Rattle.dg_pmap.proofs.Lookups.{equal-is}
use Rattle.dg_basis.specs.declared.node_rec.NodeRec.{NodeRec}
use Rattle.dg_basis.specs.NodeLists.{nodes_alone, node_of, put_node, without_node}
use Rattle.dg_basis.specs.Keys.{node_cmp}
use Rattle.dg_basis.proofs.Orders.{nodes_order, node-turned}

abbrev Entry : Type 0
Entry = NodeId × NodeRec

abbrev pub listed : List Entry → List Node
listed es = map node_of es

-- ---- a look-up

pub listed-at : (n : NodeId) (es : List Entry) → option_map (λ (r : NodeRec). node_of (n, r)) (lookup (is_at (node_cmp n)) es) ≡ node_at (nodes_alone (listed es)) n
listed-at n [] = refl
listed-at n (e ∷ es) = by_test (is_eq (node_cmp n e.0)) refl (listed-at n es)
  where
    by_test : (b : Bool) → is_eq (node_cmp n e.0) ≡ b → option_map (λ (r : NodeRec). node_of (n, r)) (lookup (is_at (node_cmp n)) es) ≡ node_at (nodes_alone (listed es)) n →
        option_map (λ (r : NodeRec). node_of (n, r)) (cond b (Some e.1) (lookup (is_at (node_cmp n)) es)) ≡ cond (same_node e.0 n) (Some (node_of e)) (node_at (nodes_alone (listed es)) n)
    by_test true is rest =
        let same : same_node e.0 n ≡ true = sym (node-turned n e.0) ∙ is in
        let one : n ≡ e.0 = nodes_order.exact n e.0 (equal-is _ is) in
        rw same (ap (λ (m : NodeId). Some (node_of (m, e.1))) one)
    by_test false is rest = let other : same_node e.0 n ≡ false = sym (node-turned n e.0) ∙ is in rw other rest

is_some-mapped : {X Y : Type 0} (f : X → Y) (o : Option X) → is_some (option_map f o) ≡ is_some o
is_some-mapped f None = refl
is_some-mapped f (Some x) = refl

pub listed-has : (n : NodeId) (es : List Entry) → is_some (lookup (is_at (node_cmp n)) es) ≡ has_node (nodes_alone (listed es)) n
listed-has n es = sym (is_some-mapped (λ (r : NodeRec). node_of (n, r)) (lookup (is_at (node_cmp n)) es)) ∙ ap is_some (listed-at n es)

pub listed-place : (es : List Entry) (i : ℕ) → option_map (λ (e : Entry). e.0) (slice_get es i) ≡ id_of (slice_get (listed es) i)
listed-place [] i = refl
listed-place (e ∷ es) zero = refl
listed-place (e ∷ es) (suc i) = listed-place es i

-- ---- a node put in

less_number : (n m : NodeId) → node_cmp n m ≡ Less → (same_node m n ≡ false) × (nat_lt n.0 m.0 ≡ true)
less_number n m h = (sym (node-turned n m) ∙ ap is_eq h, below n.0 m.0 h)
  where
    below : (a b : ℕ) → nat_cmp a b ≡ Less → nat_lt a b ≡ true
    below a b h = grind (arith, nat_tests, h)

greater_number : (n m : NodeId) → node_cmp n m ≡ Greater → (same_node m n ≡ false) × (nat_lt n.0 m.0 ≡ false)
greater_number n m h = (sym (node-turned n m) ∙ ap is_eq h, above n.0 m.0 h)
  where
    above : (a b : ℕ) → nat_cmp a b ≡ Greater → nat_lt a b ≡ false
    above a b h = grind (arith, nat_tests, h)

pub listed-put : (n : NodeId) (r : NodeRec) (es : List Entry) → listed (insert_entry node_cmp es n r) ≡ put_node (node_of (n, r)) (listed es)
listed-put n r [] = refl
listed-put n r (e ∷ es) = by_order (node_cmp n e.0) refl (listed-put n r es)
  where
    by_order : (o : Ordering) → node_cmp n e.0 ≡ o → listed (insert_entry node_cmp es n r) ≡ put_node (node_of (n, r)) (listed es) →
        listed (match_ordering o ((n, r) ∷ e ∷ es) ((e.0, r) ∷ es) (e ∷ insert_entry node_cmp es n r)) ≡ put_node (node_of (n, r)) (listed (e ∷ es))
    by_order Less is rest = let both = less_number n e.0 is in rw (both.0, both.1) refl
    by_order Equal is rest =
        let same : same_node e.0 n ≡ true = sym (node-turned n e.0) ∙ ap is_eq is in
        rw same (ap (λ (m : NodeId). node_of (m, r) ∷ listed es) (sym (nodes_order.exact n e.0 is)))
    by_order Greater is rest = let both = greater_number n e.0 is in rw (both.0, both.1) (ap (λ l. node_of e ∷ l) rest)

-- ---- a node taken out

others_stay : (n : NodeId) (e : Entry) (es : List Entry) → is_eq (node_cmp n e.0) ≡ true → AllByRecursion (λ y. node_cmp e.0 y ≡ Less) (keys_of es) → listed es ≡ without_node n (listed es)
others_stay n e [] is a = refl
others_stay n e (f ∷ es) is a =
    let less : node_cmp n f.0 ≡ Less = nodes_order.total.congr n e.0 f.0 (equal-is _ is) ∙ a.0 in
    let other = (less_number n f.0 less).0 in
    rw other (ap (λ l. node_of f ∷ l) (others_stay n e es is a.1))

pub listed-without : (n : NodeId) (es : List Entry) → IsStrictlySortedBy node_cmp (keys_of es) → listed (remove_entry (is_at (node_cmp n)) es) ≡ without_node n (listed es)
unfolding IsStrictlySortedBy
listed-without n [] s = refl
listed-without n (e ∷ es) s = by_test (is_eq (node_cmp n e.0)) refl (listed-without n es s.1)
  where
    by_test : (b : Bool) → is_eq (node_cmp n e.0) ≡ b → listed (remove_entry (is_at (node_cmp n)) es) ≡ without_node n (listed es) →
        listed (cond b es (e ∷ remove_entry (is_at (node_cmp n)) es)) ≡ without_node n (listed (e ∷ es))
    by_test true is rest = let same : same_node e.0 n ≡ true = sym (node-turned n e.0) ∙ is in rw same (others_stay n e es is s.0)
    by_test false is rest = let other : same_node e.0 n ≡ false = sym (node-turned n e.0) ∙ is in rw other (ap (λ l. node_of e ∷ l) rest)

-- ---- searches among the nodes and among the pairs

pub listed-find : (p : Origin → Bool) (es : List Entry) → option_map (λ (e : Entry). e.0) (find (λ (e : Entry). p e.1.origin) es) ≡ id_of (find (λ (x : Node). p x.origin) (listed es))
listed-find p [] = refl
listed-find p (e ∷ es) = by_test (p e.1.origin) (listed-find p es)
  where
    by_test : (b : Bool) → option_map (λ (f : Entry). f.0) (find (λ (f : Entry). p f.1.origin) es) ≡ id_of (find (λ (x : Node). p x.origin) (listed es)) →
        option_map (λ (f : Entry). f.0) (cond b (Some e) (find (λ (f : Entry). p f.1.origin) es)) ≡ id_of (cond b (Some (node_of e)) (find (λ (x : Node). p x.origin) (listed es)))
    by_test true rest = refl
    by_test false rest = rest

pub listed-filter : (p : Origin → Bool) (es : List Entry) → map (λ (e : Entry). e.0) (filter (λ (e : Entry). p e.1.origin) es) ≡ map (λ (x : Node). x.id) (filter (λ (x : Node). p x.origin) (listed es))
listed-filter p [] = refl
listed-filter p (e ∷ es) = by_test (p e.1.origin) (listed-filter p es)
  where
    by_test : (b : Bool) → map (λ (f : Entry). f.0) (filter (λ (f : Entry). p f.1.origin) es) ≡ map (λ (x : Node). x.id) (filter (λ (x : Node). p x.origin) (listed es)) →
        map (λ (f : Entry). f.0) (cond b (e ∷ filter (λ (f : Entry). p f.1.origin) es) (filter (λ (f : Entry). p f.1.origin) es))
        ≡ map (λ (x : Node). x.id) (cond b (node_of e ∷ filter (λ (x : Node). p x.origin) (listed es)) (filter (λ (x : Node). p x.origin) (listed es)))
    by_test true rest = ap (λ l. e.0 ∷ l) rest
    by_test false rest = rest
