-- The declarations of the lines so far, and those of the others.
use Rattle.std.proofs.Common.{◌≡◌, ℕ, false, List, [], ◌∷◌, ◌++◌, cond, Option, Some, None, is_some, option_map, refl, sym, ap, ◌∙◌, append_assoc}
use Rattle.dg_base.specs.Names.{label_at, label_of, place_of, interned}
use Rattle.dg_lua.specs.declared.declaration.Declaration.{Declaration}
use Rattle.dg_lua.specs.Script.{is_among, first_ones}

is_some_map : {A B : Type 0} (f : A → B) (o : Option A) → is_some (option_map f o) ≡ is_some o
is_some_map f None = refl
is_some_map f (Some a) = refl

pub not_among : (ids : List (List ℕ)) (id : List ℕ) → is_some (label_of ids id) ≡ false → is_among ids id ≡ false
not_among ids id none = sym (is_some_map label_at (place_of ids id)) ∙ none

-- a declaration with a new id
pub takes : (ids new_ids : List (List ℕ)) (found new : List Declaration) (one : Declaration) (more : List Declaration)
    → is_among ids one.id ≡ false → new_ids ≡ interned ids one.id → new ≡ found ++ one ∷ []
    → new ++ first_ones new_ids more ≡ found ++ first_ones ids (one ∷ more)
takes ids new_ids found new one more apart ids_are new_is =
    let put : interned ids one.id ≡ ids ++ one.id ∷ [] = ap (λ b. cond b ids (ids ++ one.id ∷ [])) apart in
    ap (λ xs. xs ++ first_ones new_ids more) new_is
    ∙ append_assoc found (one ∷ []) (first_ones new_ids more)
    ∙ ap (λ is. found ++ one ∷ first_ones is more) (ids_are ∙ put)
    ∙ sym (ap (λ b. found ++ cond b (first_ones ids more) (one ∷ first_ones (ids ++ one.id ∷ []) more)) apart)
