-- Names with their values in a map, as the list of pairs.
use Rattle.std.proofs.Common.{◌≡◌, List, [], ◌∷◌, ℕ, Bool, true, false, cond, if◌then◌else◌, Option, Some, refl, ap, string_bytes}
use Rattle.std.specs.declared.string.String.{String}
use Rattle.std.specs.Map.{lookup}
use Rattle.std.specs.Str.{bytes_eq}
use Rattle.indexmap.specs.IndexMap.{insert_entry}
use Rattle.dg_load.specs.Named.{find, put, pairs_in}

abbrev same_text : {A : Type 0} → String A → String A → Bool
same_text x y = bytes_eq (string_bytes x) (string_bytes y)

module _ {A V : Type 0} where
  -- a name is looked up in the map as in the list
  pub lookup-find : (name : List ℕ) (es : List (String A × V)) → lookup (λ k. bytes_eq name (string_bytes k)) es ≡ find (pairs_in es) name
  lookup-find name [] = refl
  lookup-find name (e ∷ es) =
      ap (λ (o : Option V). cond (bytes_eq name (string_bytes e.0)) (Some e.1) o) (lookup-find name es)

  put-one : (test : Bool) (e : String A × V) (es more : List (String A × V)) (v : V) (rest : List (List ℕ × V)) → pairs_in more ≡ rest →
      pairs_in (if test then (e.0, v) ∷ es else e ∷ more) ≡ cond test ((string_bytes e.0, v) ∷ pairs_in es) ((string_bytes e.0, e.1) ∷ rest)
  put-one true e es more v rest is = refl
  put-one false e es more v rest is = ap (λ (l : List (List ℕ × V)). (string_bytes e.0, e.1) ∷ l) is

  -- a name is put into the map as into the list
  pub insert-put : (es : List (String A × V)) (name : String A) (v : V) → pairs_in (insert_entry same_text es name v) ≡ put (string_bytes name) v (pairs_in es)
  insert-put [] name v = refl
  insert-put (e ∷ es) name v =
      put-one (same_text name e.0) e es (insert_entry same_text es name v) v (put (string_bytes name) v (pairs_in es)) (insert-put es name v)
