-- A sound graph is sound with an own value more or less, and with a mark.
use Rattle.std.proofs.Common.{◌≡◌, ℕ, ◌<◌, ◌≤◌, Bool, true, false, not, cond, List, [], ◌∷◌, Option, Some, None, map, filter, find, length, Contains, IsTrue, nat_lt, refl, sym, ap, ◌∙◌, subst, arith, eqb-true, lt-ltb}
use Rattle.std.proofs.lemmas.Bool.{and_parts, and_from, eqb-false, ltb-false}
use Rattle.std.specs.Option.{option_map}
use Rattle.std.specs.List.{list_all}
use Rattle.dg_base.specs.declared.ids.NodeId.{NodeId}
use Rattle.dg_base.specs.declared.ids.Label.{Label}
use Rattle.dg_base.specs.declared.ids.Kind.{Kind}
use Rattle.dg_base.specs.declared.datum.Datum.{Datum}
use Rattle.dg_base.specs.declared.datum.FieldOf.{FieldOf}
use Rattle.dg_base.specs.declared.graph.Node.{Node}
use Rattle.dg_base.specs.declared.graph.Origin.{Origin}
use Rattle.dg_base.specs.Same.{same_node, same_label}
use Rattle.dg_base.specs.Order.{rises_from, rises}
use Rattle.dg_base.specs.Tables.{Tables}
use Rattle.dg_base.specs.Graph.{Graph, node_at, put_value, overrides, origin_of}
use Rattle.dg_base.specs.Chain.{kind_of}
use Rattle.dg_base.specs.Sound.{IsSound, max_nodes, has_root, names_itself, origin_fits, is_only_override, value_fits, ids_below, IsLinked}
use Rattle.dg_base.specs.Changes.{valued, with_value, cleared, without_value, marked, with_mark}
use Rattle.dg_laws.proofs.Members.{Contains-from_map}
use Rattle.dg_laws.proofs.Filters.{list_all-filter}
use Rattle.dg_laws.proofs.Rising.{rises-filter}
use Rattle.dg_laws.proofs.Ids.{same_node-is}
use Rattle.dg_laws.proofs.Nodes.{IsLinked-from_sound, has_node-member}
use Rattle.dg_laws.proofs.SoundParts.{FitsNode, IsSound-node, IsSound-arc, IsSound-from, IsLinked-from, origin_fits-moved, is_only-moved, Keeps, Keeps-there, kind_of-kept, FitsArc-moved, below-member, below-from}

-- ---- changes of nodes that keep ids and origins

pub record KeepsNode (f : Node → Node) : Type 0 where
  pub same_id : (x : Node) → (f x).id ≡ x.id
  pub same_origin : (x : Node) → (f x).origin ≡ x.origin

abbrev pub edited : (Node → Node) → Graph → Graph
edited f g = record { nodes = map f g.nodes; arcs = g.arcs }

module _ {f : Node → Node} (k : KeepsNode f) where
  find_edited : (n : NodeId) (xs : List Node) → find (λ z. same_node z.id n) (map f xs) ≡ option_map f (find (λ z. same_node z.id n) xs)
  find_edited n [] = refl
  find_edited n (x ∷ xs) =
      ap (λ (z : NodeId). cond (same_node z n) (Some (f x)) (find (λ y. same_node y.id n) (map f xs))) (k.same_id x)
      ∙ by_test (same_node x.id n) (find_edited n xs)
    where
      by_test : (b : Bool) → find (λ z. same_node z.id n) (map f xs) ≡ option_map f (find (λ z. same_node z.id n) xs) →
          cond b (Some (f x)) (find (λ z. same_node z.id n) (map f xs)) ≡ option_map f (cond b (Some x) (find (λ z. same_node z.id n) xs))
      by_test true rest = refl
      by_test false rest = rest

  pub node_at-edited : (g : Graph) (n : NodeId) → node_at (edited f g) n ≡ option_map f (node_at g n)
  node_at-edited g n = find_edited n g.nodes

  origin_edited : (o : Option Node) → origin_of (option_map f o) ≡ origin_of o
  origin_edited None = refl
  origin_edited (Some x) = ap (λ (w : Origin). Some w) (k.same_origin x)

  pub edited-keeps : (g : Graph) → Keeps g (edited f g)
  edited-keeps g = record { origins = λ n there. ap origin_of (node_at-edited g n) ∙ origin_edited (node_at g n) }

  names_edited : (root : NodeId) (o : Option Node) → names_itself root (option_map f o) ≡ names_itself root o
  names_edited root None = refl
  names_edited root (Some x) = ap (has_root root) (k.same_origin x)

  ids_edited : (xs : List Node) → map (λ x. x.id.0) (map f xs) ≡ map (λ x. x.id.0) xs
  ids_edited [] = refl
  ids_edited (x ∷ xs) = cons_same (f x).id.0 x.id.0 (ap (λ (z : NodeId). z.0) (k.same_id x)) (ids_edited xs)
    where
      cons_same : (a b : ℕ) {as_ bs : List ℕ} → a ≡ b → as_ ≡ bs → (a ∷ as_) ≡ (b ∷ bs)
      cons_same a b e r = cc

  count_edited : (q : Origin → Bool) (xs : List Node) → length (filter (λ x. q x.origin) (map f xs)) ≡ length (filter (λ x. q x.origin) xs)
  count_edited q [] = refl
  count_edited q (x ∷ xs) =
      ap (λ (w : Origin). length (cond (q w) (f x ∷ filter (λ z. q z.origin) (map f xs)) (filter (λ z. q z.origin) (map f xs)))) (k.same_origin x)
      ∙ by_test (q x.origin) (count_edited q xs)
    where
      by_test : (b : Bool) → length (filter (λ z. q z.origin) (map f xs)) ≡ length (filter (λ z. q z.origin) xs) →
          length (cond b (f x ∷ filter (λ z. q z.origin) (map f xs)) (filter (λ z. q z.origin) (map f xs))) ≡ length (cond b (x ∷ filter (λ z. q z.origin) xs) (filter (λ z. q z.origin) xs))
      by_test true rest = omega (arith, rest)
      by_test false rest = rest

  pub edited-below : (g : Graph) (next : ℕ) → IsTrue (ids_below g next) → IsTrue (ids_below (edited f g) next)
  edited-below g next below = below-from (edited f g) next (λ y c.
      let x = Contains-from_map f g.nodes y c in
      let lt = below-member g next below x.0 x.1 in
      let is : y.id.0 ≡ x.0.id.0 = ap (λ (z : Node). z.id.0) (sym x.2) ∙ ap (λ (z : NodeId). z.0) (k.same_id x.0) in
      omega (arith, lt, is))

  edited_origin : (g : Graph) (x : Node) → IsTrue (origin_fits g x.id x.origin) → IsTrue (origin_fits (edited f g) x.id x.origin)
  edited_origin g x fits = origin_fits-moved g (edited f g) x.id x.origin fits (λ root original e is.
      (Keeps-there (edited-keeps g) original is.there, ap (names_itself root) (node_at-edited g root) ∙ names_edited root (node_at g root) ∙ is.root_own))

  edited_only : (g : Graph) (w : Origin) → IsTrue (is_only_override g w) → IsTrue (is_only_override (edited f g) w)
  edited_only g w only = is_only-moved g (edited f g) w only (λ root original e. let same = count_edited (overrides root original) g.nodes in omega (arith, same))

  pub edited-linked : {t : Tables} {g : Graph} → IsSound t g → IsLinked (edited f g)
  edited-linked {t} {g} s =
      IsLinked-from (edited f g) (subst (λ (z : List ℕ). IsTrue (rises z)) (sym (ids_edited g.nodes)) s.ids_rise)
      (λ y c.
      let x = Contains-from_map f g.nodes y c in
      let fits = edited_origin g x.0 (IsSound-node s x.0 x.1).from in
      subst (λ (z : Node). IsTrue (origin_fits (edited f g) z.id z.origin)) x.2 (
      subst (λ (z : NodeId). IsTrue (origin_fits (edited f g) z (f x.0).origin)) (sym (k.same_id x.0)) (
      subst (λ (w : Origin). IsTrue (origin_fits (edited f g) x.0.id w)) (sym (k.same_origin x.0)) fits)))
      (λ a c.
      let fits = IsSound-arc s a c in
      (Keeps-there (edited-keeps g) a.src.node fits.src_there, Keeps-there (edited-keeps g) a.node fits.there))

  edited_node : {t : Tables} {g : Graph} → IsSound t g → (x : Node) → Contains g.nodes x → IsTrue (rises (map (λ v. v.label.0) (f x).own)) →
      IsTrue (list_all (value_fits t (kind_of g x.id)) (f x).own) → FitsNode t (edited f g) (f x)
  edited_node {t} {g} s x c labels values =
      let fits = IsSound-node s x c in
      let kept : kind_of (edited f g) (f x).id ≡ kind_of g x.id =
      ap (kind_of (edited f g)) (k.same_id x) ∙ kind_of-kept (IsLinked-from_sound s) (edited-linked s) (edited-keeps g) x.id (has_node-member (IsLinked-from_sound s) x c)
      in
      record {
        id_low = subst (λ (z : NodeId). 1 ≤ z.0) (sym (k.same_id x)) fits.id_low;
        id_high = subst (λ (z : NodeId). z.0 ≤ max_nodes) (sym (k.same_id x)) fits.id_high;
        from = ap (λ (z : NodeId). origin_fits (edited f g) z (f x).origin) (k.same_id x) ∙ ap (origin_fits (edited f g) x.id) (k.same_origin x) ∙ edited_origin g x fits.from;
        only = ap (is_only_override (edited f g)) (k.same_origin x) ∙ edited_only g x.origin fits.only;
        labels_rise = labels;
        values_fit = ap (λ (o : Option Kind). list_all (value_fits t o) (f x).own) kept ∙ values;
      }

  -- where the own values of each node rise and fit its kind, as it was, the changed graph is sound
  pub edited-sound : {t : Tables} {g : Graph} → IsSound t g →
      ((x : Node) → Contains g.nodes x → IsTrue (rises (map (λ v. v.label.0) (f x).own)) × IsTrue (list_all (value_fits t (kind_of g x.id)) (f x).own)) → IsSound t (edited f g)
  edited-sound {t} {g} s own =
      IsSound-from t (edited f g) (subst (λ (z : List ℕ). IsTrue (rises z)) (sym (ids_edited g.nodes)) s.ids_rise)
      (λ y c.
      let x = Contains-from_map f g.nodes y c in
      let fits = own x.0 x.1 in
      subst (FitsNode t (edited f g)) x.2 (edited_node s x.0 x.1 fits.0 fits.1))
      s.arcs_differ
      (λ a c.
      let fits = IsSound-arc s a c in
      let l = IsLinked-from_sound s in
      FitsArc-moved fits (Keeps-there (edited-keeps g) a.src.node fits.src_there) (Keeps-there (edited-keeps g) a.node fits.there)
      (kind_of-kept l (edited-linked s) (edited-keeps g) a.src.node fits.src_there)
      (kind_of-kept l (edited-linked s) (edited-keeps g) a.node fits.there) (omega arith))
      s.arcs_few

-- ---- an own value is set

pub valued-keeps : (n : NodeId) (l : Label) (v : Datum) → KeepsNode (valued n l v)
valued-keeps n l v = record {
  same_id = λ x. elim (same_node x.id n) as (λ b. (cond b (record x { own = put_value x.own l v }) x).id ≡ x.id) [ true ↦ refl | false ↦ refl ];
  same_origin = λ x. elim (same_node x.id n) as (λ b. (cond b (record x { own = put_value x.own l v }) x).origin ≡ x.origin) [ true ↦ refl | false ↦ refl ];
}

pub cleared-keeps : (n : NodeId) (l : Label) → KeepsNode (cleared n l)
cleared-keeps n l = record {
  same_id = λ x. elim (same_node x.id n) as (λ b. (cond b (record x { own = filter (λ f. not (same_label f.label l)) x.own }) x).id ≡ x.id) [ true ↦ refl | false ↦ refl ];
  same_origin = λ x. elim (same_node x.id n) as (λ b. (cond b (record x { own = filter (λ f. not (same_label f.label l)) x.own }) x).origin ≡ x.origin) [ true ↦ refl | false ↦ refl ];
}

pub marked-keeps : (n : NodeId) (d : Bool) → KeepsNode (marked n d)
marked-keeps n d = record {
  same_id = λ x. elim (same_node x.id n) as (λ b. (cond b (record x { defective = d }) x).id ≡ x.id) [ true ↦ refl | false ↦ refl ];
  same_origin = λ x. elim (same_node x.id n) as (λ b. (cond b (record x { defective = d }) x).origin ≡ x.origin) [ true ↦ refl | false ↦ refl ];
}

put_value-rises_from : (a : ℕ) (fs : List FieldOf) (l : Label) (v : Datum) → a < l.0 → IsTrue (rises_from a (map (λ f. f.label.0) fs)) →
    IsTrue (rises_from a (map (λ f. f.label.0) (put_value fs l v)))
put_value-rises_from a [] l v lt h = and_from _ _ (lt-ltb a l.0 lt) refl
put_value-rises_from a (f ∷ fs) l v lt h =
    let both = and_parts (nat_lt a f.label.0) (rises_from f.label.0 (map (λ z. z.label.0) fs)) h in
    by_tests (same_label f.label l) (nat_lt l.0 f.label.0) refl refl both.0 both.1 (put_value-rises_from f.label.0 fs l v)
  where
    by_tests : (b c : Bool) → same_label f.label l ≡ b → nat_lt l.0 f.label.0 ≡ c → IsTrue (nat_lt a f.label.0) → IsTrue (rises_from f.label.0 (map (λ z. z.label.0) fs)) →
        (f.label.0 < l.0 → IsTrue (rises_from f.label.0 (map (λ z. z.label.0) fs)) → IsTrue (rises_from f.label.0 (map (λ z. z.label.0) (put_value fs l v)))) →
        IsTrue (rises_from a (map (λ z. z.label.0) (cond b (record { label = l; value = v } ∷ fs) (cond c (record { label = l; value = v } ∷ f ∷ fs) (f ∷ put_value fs l v)))))
    by_tests true c e d first rest later =
        let is : f.label.0 ≡ l.0 = eqb-true f.label.0 l.0 e in
        and_from _ _ (lt-ltb a l.0 lt) (subst (λ (z : ℕ). IsTrue (rises_from z (map (λ k. k.label.0) fs))) is rest)
    by_tests false true e d first rest later = and_from _ _ (lt-ltb a l.0 lt) (and_from _ _ d rest)
    by_tests false false e d first rest later =
        let apart : f.label.0 ≡ l.0 → ⊥ = eqb-false f.label.0 l.0 e in
        let upto : f.label.0 ≤ l.0 = ltb-false l.0 f.label.0 d in
        and_from _ _ first (later (omega (arith, apart, upto)) rest)

put_value-rises : (fs : List FieldOf) (l : Label) (v : Datum) → IsTrue (rises (map (λ f. f.label.0) fs)) → IsTrue (rises (map (λ f. f.label.0) (put_value fs l v)))
put_value-rises [] l v h = refl
put_value-rises (f ∷ fs) l v h = by_tests (same_label f.label l) (nat_lt l.0 f.label.0) refl refl
  where
    by_tests : (b c : Bool) → same_label f.label l ≡ b → nat_lt l.0 f.label.0 ≡ c →
        IsTrue (rises (map (λ z. z.label.0) (cond b (record { label = l; value = v } ∷ fs) (cond c (record { label = l; value = v } ∷ f ∷ fs) (f ∷ put_value fs l v)))))
    by_tests true c e d = subst (λ (z : ℕ). IsTrue (rises_from z (map (λ k. k.label.0) fs))) (eqb-true f.label.0 l.0 e) h
    by_tests false true e d = and_from _ _ d h
    by_tests false false e d =
        let apart : f.label.0 ≡ l.0 → ⊥ = eqb-false f.label.0 l.0 e in
        let upto : f.label.0 ≤ l.0 = ltb-false l.0 f.label.0 d in
        put_value-rises_from f.label.0 fs l v (omega (arith, apart, upto)) h

put_value-all : (q : FieldOf → Bool) (fs : List FieldOf) (l : Label) (v : Datum) → IsTrue (q (record { label = l; value = v })) → IsTrue (list_all q fs) → IsTrue (list_all q (put_value fs l v))
put_value-all q [] l v new h = and_from _ _ new refl
put_value-all q (f ∷ fs) l v new h =
    let both = and_parts (q f) (list_all q fs) h in
    by_tests (same_label f.label l) (nat_lt l.0 f.label.0) both.0 both.1 (put_value-all q fs l v new both.1)
  where
    by_tests : (b c : Bool) → IsTrue (q f) → IsTrue (list_all q fs) → IsTrue (list_all q (put_value fs l v)) →
        IsTrue (list_all q (cond b (record { label = l; value = v } ∷ fs) (cond c (record { label = l; value = v } ∷ f ∷ fs) (f ∷ put_value fs l v))))
    by_tests true c first rest later = and_from _ _ new rest
    by_tests false true first rest later = and_from _ _ new (and_from _ _ first rest)
    by_tests false false first rest later = and_from _ _ first later

-- a value that fits is set
pub with_value-sound : {t : Tables} {g : Graph} → IsSound t g → (n : NodeId) (l : Label) (v : Datum) → IsTrue (value_fits t (kind_of g n) (record { label = l; value = v })) →
    IsSound t (with_value g n l v)
with_value-sound {t} {g} s n l v fits = edited-sound (valued-keeps n l v) s (λ x c. by_test x (same_node x.id n) refl (IsSound-node s x c))
  where
    by_test : (x : Node) (b : Bool) → same_node x.id n ≡ b → FitsNode t g x →
        IsTrue (rises (map (λ z. z.label.0) (cond b (record x { own = put_value x.own l v }) x).own))
        × IsTrue (list_all (value_fits t (kind_of g x.id)) (cond b (record x { own = put_value x.own l v }) x).own)
    by_test x true e f =
        let here : IsTrue (value_fits t (kind_of g x.id) (record { label = l; value = v })) =
        ap (λ (z : NodeId). value_fits t (kind_of g z) (record { label = l; value = v })) (same_node-is x.id n e) ∙ fits
        in
        (put_value-rises x.own l v f.labels_rise, put_value-all (value_fits t (kind_of g x.id)) x.own l v here f.values_fit)
    by_test x false e f = (f.labels_rise, f.values_fit)

pub without_value-sound : {t : Tables} {g : Graph} → IsSound t g → (n : NodeId) (l : Label) → IsSound t (without_value g n l)
without_value-sound {t} {g} s n l = edited-sound (cleared-keeps n l) s (λ x c. by_test x (same_node x.id n) (IsSound-node s x c))
  where
    by_test : (x : Node) (b : Bool) → FitsNode t g x →
        IsTrue (rises (map (λ z. z.label.0) (cond b (record x { own = filter (λ f. not (same_label f.label l)) x.own }) x).own))
        × IsTrue (list_all (value_fits t (kind_of g x.id)) (cond b (record x { own = filter (λ f. not (same_label f.label l)) x.own }) x).own)
    by_test x true f = (
      rises-filter (λ z. z.label.0) (λ z. not (same_label z.label l)) x.own f.labels_rise,
      list_all-filter (value_fits t (kind_of g x.id)) (λ z. not (same_label z.label l)) x.own f.values_fit,
    )
    by_test x false f = (f.labels_rise, f.values_fit)

pub with_mark-sound : {t : Tables} {g : Graph} → IsSound t g → (n : NodeId) (d : Bool) → IsSound t (with_mark g n d)
with_mark-sound {t} {g} s n d = edited-sound (marked-keeps n d) s (λ x c. by_test x (same_node x.id n) (IsSound-node s x c))
  where
    by_test : (x : Node) (b : Bool) → FitsNode t g x →
        IsTrue (rises (map (λ z. z.label.0) (cond b (record x { defective = d }) x).own)) × IsTrue (list_all (value_fits t (kind_of g x.id)) (cond b (record x { defective = d }) x).own)
    by_test x true f = (f.labels_rise, f.values_fit)
    by_test x false f = (f.labels_rise, f.values_fit)
