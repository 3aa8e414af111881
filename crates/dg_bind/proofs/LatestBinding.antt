-- What a binding changes.
use Rattle.std.proofs.Common.{◌≡◌, ◌≢◌, ℕ, Bool, true, false, cond, List, [], ◌∷◌, Option, Some, None, refl, sym, ap, ◌∙◌}
use Rattle.std.proofs.lemmas.Slice.Eq.{bytes_eq-Decides}
use Rattle.std.specs.Str.{bytes_eq}
use Rattle.dg_base.specs.declared.ids.NodeId.{NodeId}
use Rattle.dg_bind.specs.Bindings.{Binding, bound_to, bind}

itself : (name : List ℕ) → bytes_eq name name ≡ true
itself name = (bytes_eq-Decides name name).1 refl

pub latest : (bs : List Binding) (name : List ℕ) (node : NodeId) → bound_to (bind bs name node) name ≡ Some node
latest [] name node = ap (λ v. cond v (Some node) None) (itself name)
latest (b ∷ bs) name node = by (bytes_eq name b.name) refl (latest bs name node)
  where
    by : (t : Bool) → bytes_eq name b.name ≡ t → bound_to (bind bs name node) name ≡ Some node →
        bound_to (cond t (record { name = b.name; node = node } ∷ bs) (b ∷ bind bs name node)) name ≡ Some node
    by true e rest = ap (λ v. cond v (Some node) (bound_to bs name)) e
    by false e rest = ap (λ v. cond v (Some b.node) (bound_to (bind bs name node) name)) e ∙ rest

differs : (other name : List ℕ) → other ≢ name → bytes_eq other name ≡ false
differs other name not = by (bytes_eq other name) refl
  where
    by : (t : Bool) → bytes_eq other name ≡ t → t ≡ false
    by true e = absurd (not ((bytes_eq-Decides other name).0 e))
    by false e = refl

pub others : (bs : List Binding) (name : List ℕ) (node : NodeId) (other : List ℕ) → other ≢ name → bound_to (bind bs name node) other ≡ bound_to bs other
others [] name node other not = ap (λ v. cond v (Some node) None) (differs other name not)
others (b ∷ bs) name node other not = by (bytes_eq name b.name) refl (others bs name node other not)
  where
    by : (t : Bool) → bytes_eq name b.name ≡ t → bound_to (bind bs name node) other ≡ bound_to bs other →
        bound_to (cond t (record { name = b.name; node = node } ∷ bs) (b ∷ bind bs name node)) other ≡ bound_to (b ∷ bs) other
    by true e rest =
        let same : name ≡ b.name = (bytes_eq-Decides name b.name).0 e in
        let away : bytes_eq other b.name ≡ false = ap (bytes_eq other) (sym same) ∙ differs other name not in
        ap (λ v. cond v (Some node) (bound_to bs other)) away ∙ sym (ap (λ v. cond v (Some b.node) (bound_to bs other)) away)
    by false e rest = ap (λ (o : Option NodeId). cond (bytes_eq other b.name) (Some b.node) o) rest
