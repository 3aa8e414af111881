-- Names and nodes in a map, as the list of their bindings.
use Rattle.std.proofs.Common.{◌≡◌, List, [], ◌∷◌, ℕ, Bool, true, false, cond, if◌then◌else◌, Option, Some, refl, ap, string_bytes}
use Rattle.std.specs.declared.string.String.{String}
use Rattle.std.specs.Map.{lookup}
use Rattle.std.specs.Str.{bytes_eq}
use Rattle.indexmap.specs.IndexMap.{insert_entry}
use Rattle.dg_base.specs.declared.ids.NodeId.{NodeId}
use Rattle.dg_bind.specs.Bindings.{Binding, bound_to, bind}
use Rattle.dg_bind.specs.Code.{binding, bindings_in}

module _ {A : Type 0} where
  -- a name is looked up in the map as in the list
  pub lookup-bound_to : (name : List ℕ) (bs : List (String A × NodeId)) → lookup (λ k. bytes_eq name (string_bytes k)) bs ≡ bound_to (bindings_in bs) name
  lookup-bound_to name [] = refl
  lookup-bound_to name (b ∷ bs) =
      ap (λ (o : Option NodeId). cond (bytes_eq name (string_bytes b.0)) (Some b.1) o) (lookup-bound_to name bs)

  abbrev same_text : String A → String A → Bool
  same_text x y = bytes_eq (string_bytes x) (string_bytes y)

  put : (test : Bool) (b : String A × NodeId) (bs more : List (String A × NodeId)) (node : NodeId) (rest : List Binding) → bindings_in more ≡ rest →
      bindings_in (if test then (b.0, node) ∷ bs else b ∷ more) ≡ cond test (record { name = string_bytes b.0; node = node } ∷ bindings_in bs) (binding b ∷ rest)
  put true b bs more node rest e = refl
  put false b bs more node rest e = ap (λ (l : List Binding). binding b ∷ l) e

  -- a name is put into the map as into the list
  pub insert-bind : (bs : List (String A × NodeId)) (name : String A) (node : NodeId) → bindings_in (insert_entry same_text bs name node) ≡ bind (bindings_in bs) (string_bytes name) node
  insert-bind [] name node = refl
  insert-bind (b ∷ bs) name node =
      put (same_text name b.0) b bs (insert_entry same_text bs name node) node (bind (bindings_in bs) (string_bytes name) node) (insert-bind bs name node)
