-- A change of the one node that has an id, among nodes whose ids rise.
use Rattle.std.proofs.Common.{◌≡◌, ℕ, zero, suc, ◌<◌, ◌≤◌, Bool, true, false, cond, List, [], ◌∷◌, Some, map, find, length, IsTrue, nat_lt, refl, sym, ap, ◌∙◌, subst, arith, ne_eqb, eqb-true, ltb-true, slice_get, slice_set, get_or, Contains}
use Rattle.std.proofs.lemmas.Bool.{and_parts}
use Rattle.std.proofs.lemmas.Option.{slice_get_read}
use Rattle.dg_base.specs.declared.ids.NodeId.{NodeId}
use Rattle.dg_base.specs.declared.graph.Node.{Node}
use Rattle.dg_base.specs.Same.{same_node}
use Rattle.dg_base.specs.Order.{rises_from, rises}
use Rattle.dg_base.specs.Graph.{Graph}
use Rattle.dg_base.specs.Tables.{Tables}
use Rattle.dg_base.specs.Sound.{IsSound, node_fits}
use Rattle.dg_laws.proofs.Members.{Contains-head, Contains-tail, list_all_at}
use Rattle.dg_laws.proofs.Rising.{rises-rest}

abbrev pub ids_of : List Node → List ℕ
ids_of xs = map (λ z. z.id.0) xs

-- the change of a node
abbrev pub changed : (Node → Node) → NodeId → Node → Node
changed h n y = cond (same_node y.id n) (h y) y

some_is : (x y : Node) → Some x ≡ Some y → x ≡ y
some_is x y e = cc

module _ (h : Node → Node) (n : NodeId) where
  other : (y : Node) → (y.id.0 ≡ n.0 → ⊥) → changed h n y ≡ y
  other y differ = ap (λ b. cond b (h y) y) (ne_eqb y.id.0 n.0 differ)

  kept_above : (a : ℕ) (ys : List Node) → n.0 ≤ a → IsTrue (rises_from a (ids_of ys)) → map (changed h n) ys ≡ ys
  kept_above a [] le r = refl
  kept_above a (y ∷ ys) le r =
      let both = and_parts (nat_lt a y.id.0) (rises_from y.id.0 (ids_of ys)) r in
      let below : a < y.id.0 = ltb-true a y.id.0 both.0 in
      let less : n.0 < y.id.0 = omega (arith, le, below) in
      let upto : n.0 ≤ y.id.0 = omega (arith, less) in
      ap (λ z. z ∷ map (changed h n) ys) (other y (λ e. absurd (omega (arith, less, e)))) ∙ ap (λ zs. y ∷ zs) (kept_above y.id.0 ys upto both.1)

  -- an element later than the first one has a larger id
  later_above : (a : ℕ) (ys : List Node) (i : ℕ) (x : Node) → IsTrue (rises_from a (ids_of ys)) → slice_get ys i ≡ Some x → a < x.id.0
  later_above a [] i x r e = let nothing : ⊥ = cc in absurd nothing
  later_above a (y ∷ ys) zero x r e =
      let both = and_parts (nat_lt a y.id.0) (rises_from y.id.0 (ids_of ys)) r in
      let below : a < y.id.0 = ltb-true a y.id.0 both.0 in
      subst (λ (z : Node). a < z.id.0) (some_is y x e) below
  later_above a (y ∷ ys) (suc i) x r e =
      let both = and_parts (nat_lt a y.id.0) (rises_from y.id.0 (ids_of ys)) r in
      let below : a < y.id.0 = ltb-true a y.id.0 both.0 in
      let more : y.id.0 < x.id.0 = later_above y.id.0 ys i x both.1 e in
      omega (arith, below, more)

  pub changed_at : (xs : List Node) (i : ℕ) (x : Node) → IsTrue (rises (ids_of xs)) → slice_get xs i ≡ Some x → same_node x.id n ≡ true → map (changed h n) xs ≡ slice_set xs i (h x)
  changed_at [] i x r e same = let nothing : ⊥ = cc in absurd nothing
  changed_at (y ∷ ys) zero x r e same =
      let is : y ≡ x = some_is y x e in
      let first : same_node y.id n ≡ true = ap (λ (z : Node). same_node z.id n) is ∙ same in
      let upto : n.0 ≤ y.id.0 = let equal : y.id.0 ≡ n.0 = eqb-true y.id.0 n.0 first in omega (arith, equal) in
      ap (λ b. cond b (h y) y ∷ map (changed h n) ys) first ∙ ap (λ zs. h y ∷ zs) (kept_above y.id.0 ys upto r) ∙ ap (λ (z : Node). h z ∷ ys) is
  changed_at (y ∷ ys) (suc i) x r e same =
      let more : y.id.0 < x.id.0 = later_above y.id.0 ys i x r e in
      let equal : x.id.0 ≡ n.0 = eqb-true x.id.0 n.0 same in
      ap (λ z. z ∷ map (changed h n) ys) (other y (λ is. absurd (omega (arith, more, equal, is))))
      ∙ ap (λ zs. y ∷ zs) (changed_at ys i x (rises-rest y.id.0 (ids_of ys) r) e same)

-- nothing changes where the element is put again
pub set_again : (xs : List Node) (i : ℕ) (x : Node) → slice_get xs i ≡ Some x → slice_set xs i x ≡ xs
set_again [] i x e = let nothing : ⊥ = cc in absurd nothing
set_again (y ∷ ys) zero x e = ap (λ (z : Node). z ∷ ys) (sym (some_is y x e))
set_again (y ∷ ys) (suc i) x e = ap (λ zs. y ∷ zs) (set_again ys i x e)

-- what is found has the id
pub found_same : (n : NodeId) (xs : List Node) (x : Node) → find (λ z. same_node z.id n) xs ≡ Some x → same_node x.id n ≡ true
found_same n [] x e = let nothing : ⊥ = cc in absurd nothing
found_same n (y ∷ ys) x e = by_test (same_node y.id n) refl e (λ rest. found_same n ys x rest)
  where
    by_test : (b : Bool) → same_node y.id n ≡ b → cond b (Some y) (find (λ z. same_node z.id n) ys) ≡ Some x → (find (λ z. same_node z.id n) ys ≡ Some x → same_node x.id n ≡ true) → same_node x.id n ≡ true
    by_test true is h others = ap (λ (z : Node). same_node z.id n) (sym (some_is y x h)) ∙ is
    by_test false is h others = others h

-- what was read at the place of a node
pub stands : (nodes view : List Node) (n : NodeId) (i : ℕ) (x : Node) → view ≡ nodes → i < length view → x ≡ get_or nodes i x → slice_get nodes i ≡ Some x
stands nodes view n i x is within read = slice_get_read nodes (length nodes) i x refl (subst (λ (zs : List Node). i < length zs) is within) read

pub stands_same : (nodes view : List Node) (n : NodeId) (i : ℕ) (x : Node) → view ≡ nodes → slice_get view i ≡ find (λ z. same_node z.id n) view → slice_get nodes i ≡ Some x →
    same_node x.id n ≡ true
stands_same nodes view n i x is at found =
    found_same n nodes x (sym (ap (λ (zs : List Node). slice_get zs i) (sym is) ∙ at ∙ ap (find (λ z. same_node z.id n)) is) ∙ found)

contains_at : (xs : List Node) (i : ℕ) (x : Node) → slice_get xs i ≡ Some x → Contains xs x
contains_at [] i x e = let nothing : ⊥ = cc in absurd nothing
contains_at (y ∷ ys) zero x e = subst (Contains (y ∷ ys)) (some_is y x e) (Contains-head y ys)
contains_at (y ∷ ys) (suc i) x e = Contains-tail y ys x (contains_at ys i x e)

-- a sound graph's own values stand in label order
pub own-rises : {t : Tables} {g : Graph} → IsSound t g → (i : ℕ) (x : Node) → slice_get g.nodes i ≡ Some x → IsTrue (rises (map (λ f. f.label.0) x.own))
own-rises {t} {g} s i x e =
    let fits = list_all_at (node_fits t g) g.nodes x s.nodes_fit (contains_at g.nodes i x e) in
    (and_parts _ _ (and_parts _ _ fits).1).0
