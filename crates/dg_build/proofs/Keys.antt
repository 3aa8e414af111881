-- The keys of a set in the order of insertion, as what they are seen as.
use Rattle.std.proofs.Common.{◌≡◌, ◌∙◌, suc, ◌+◌, Bool, true, false, not, cond, ◌||◌, List, [], ◌∷◌, ◌++◌, Some, None, map, fold, length, ltb, refl, sym, ap}
use Rattle.std.proofs.lemmas.List.{map-append}
use Rattle.std.specs.Prelude.{position}
use Rattle.std.specs.Option.{unwrap_or}
use Rattle.std.specs.List.{list_any, position_or_len}
use Rattle.indexmap.specs.IndexSet.{insert_key, insert_all}
use Rattle.dg_laws.proofs.Among.{Tells}
use Rattle.dg_build.specs.Firsts.{firsts, place_of}
use Rattle.dg_build.proofs.Firsts.{put, puts-firsts}

module _ {T X : Type 0} (eq : T → T → Bool) (same : X → X → Bool) (seen : T → X) (as_seen : (a b : T) → eq a b ≡ same (seen a) (seen b)) where
  any_seen : (k : T) (ks : List T) → list_any (eq k) ks ≡ list_any (same (seen k)) (map seen ks)
  any_seen k [] = refl
  any_seen k (x ∷ xs) =
      ap (λ b. b || list_any (eq k) xs) (as_seen k x) ∙ ap (λ b. same (seen k) (seen x) || b) (any_seen k xs)

  put_seen : (b : Bool) (ks : List T) (k : T) → map seen (cond b ks (ks ++ k ∷ [])) ≡ cond b (map seen ks) (map seen ks ++ seen k ∷ [])
  put_seen true ks k = refl
  put_seen false ks k = map-append seen ks (k ∷ [])

  insert_seen : (ks : List T) (k : T) → map seen (insert_key eq ks k) ≡ put same (map seen ks) (seen k)
  insert_seen ks k =
      put_seen (list_any (eq k) ks) ks k
      ∙ ap (λ b. cond b (map seen ks) (map seen ks ++ seen k ∷ [])) (any_seen k ks)

  inserts_seen : (ks xs : List T) → map seen (insert_all eq ks xs) ≡ fold (put same) (map seen ks) (map seen xs)
  inserts_seen ks [] = refl
  inserts_seen ks (x ∷ xs) = inserts_seen (insert_key eq ks x) xs ∙ ap (λ l. fold (put same) l (map seen xs)) (insert_seen ks x)

  -- those of a list that are inserted one after another are its first appearances
  pub inserted-firsts : Tells same → (xs : List T) → map seen (insert_all eq [] xs) ≡ firsts same (map seen xs)
  inserted-firsts tells xs = inserts_seen [] xs ∙ puts-firsts same tells (map seen xs)

  length_seen : (ks : List T) → length (map seen ks) ≡ length ks
  length_seen [] = refl
  length_seen (k ∷ ks) = ap suc (length_seen ks)

  first_seen : (k : T) (ks : List T) → position_or_len (eq k) ks ≡ position_or_len (same (seen k)) (map seen ks)
  first_seen k [] = refl
  first_seen k (x ∷ xs) =
      ap (λ b. cond (not b) (1 + position_or_len (eq k) xs) 0) (as_seen k x)
      ∙ ap (λ n. cond (not (same (seen k) (seen x))) (1 + n) 0) (first_seen k xs)

  -- a key is found in its place
  pub position_seen : (k : T) (ks : List T) → unwrap_or (position (eq k) ks) 0 ≡ place_of same (map seen ks) (seen k)
  position_seen k ks =
      ap (λ n. unwrap_or (cond (ltb n (length ks)) (Some n) None) 0) (first_seen k ks)
      ∙ ap (λ m. unwrap_or (cond (ltb (position_or_len (same (seen k)) (map seen ks)) m) (Some (position_or_len (same (seen k)) (map seen ks))) None) 0) (sym (length_seen ks))
