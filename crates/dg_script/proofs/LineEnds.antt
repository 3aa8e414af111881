-- Lines by their last one, and a line by its last byte.
use Rattle.std.proofs.Common.{◌≡◌, ◌≢◌, ℕ, arith, Bool, true, false, cond, List, [], ◌∷◌, ◌++◌, map, length, eqb, refl, sym, ap, ◌∙◌}
use Rattle.std.proofs.lemmas.List.{map-append}
use Rattle.std.proofs.lemmas.Bool.Decides.{nat_tests}
use Rattle.dg_script.specs.Script.{without_empty_end, without_return}

cond_behind : {X : Type 0} (y : X) (b : Bool) (ls ms : List X) → y ∷ cond b ls ms ≡ cond b (y ∷ ls) (y ∷ ms)
cond_behind y true ls ms = refl
cond_behind y false ls ms = refl

cond_true : {A : Type 0} (b : Bool) (x y : A) → b ≡ true → cond b x y ≡ x
cond_true b x y e = ap (λ v. cond v x y) e

cond_false : {A : Type 0} (b : Bool) (x y : A) → b ≡ false → cond b x y ≡ y
cond_false b x y e = ap (λ v. cond v x y) e

-- the last line goes where it is empty
without_empty_end-append : (ls : List (List ℕ)) (l : List ℕ) →
    without_empty_end (ls ++ l ∷ []) ≡ cond (eqb (length l) 0) ls (ls ++ l ∷ [])
without_empty_end-append [] l = refl
without_empty_end-append (y ∷ []) l = cond_behind y (eqb (length l) 0) [] (l ∷ [])
without_empty_end-append (y ∷ z ∷ zs) l =
    ap (λ ls. y ∷ ls) (without_empty_end-append (z ∷ zs) l) ∙ cond_behind y (eqb (length l) 0) (z ∷ zs) ((z ∷ zs) ++ l ∷ [])

module _ {X : Type 0} (f : X → List ℕ) (ls ms : List X) (l : X) (is : ls ≡ ms ++ l ∷ []) where
  ended : without_empty_end (map f ls) ≡ cond (eqb (length (f l)) 0) (map f ms) (map f ms ++ f l ∷ [])
  ended = ap (λ xs. without_empty_end (map f xs)) is ∙ ap without_empty_end (map-append f ms (l ∷ [])) ∙ without_empty_end-append (map f ms) (f l)

  pub without_empty_end-empty : eqb (length (f l)) 0 ≡ true → without_empty_end (map f ls) ≡ map f ms
  without_empty_end-empty e = ended ∙ cond_true _ _ _ e

  pub without_empty_end-kept : eqb (length (f l)) 0 ≡ false → without_empty_end (map f ls) ≡ map f ls
  without_empty_end-kept e = ended ∙ cond_false _ _ _ e ∙ sym (ap (map f) is ∙ map-append f ms (l ∷ []))

-- the last byte goes where it is a carriage return
without_return-append : (bs : List ℕ) (b : ℕ) → without_return (bs ++ b ∷ []) ≡ cond (eqb b 13) bs (bs ++ b ∷ [])
without_return-append [] b = refl
without_return-append (x ∷ []) b = cond_behind x (eqb b 13) [] (b ∷ [])
without_return-append (x ∷ y ∷ ys) b =
    ap (λ bs. x ∷ bs) (without_return-append (y ∷ ys) b) ∙ cond_behind x (eqb b 13) (y ∷ ys) ((y ∷ ys) ++ b ∷ [])

is_return : (b : ℕ) → b ≡ 13 → eqb b 13 ≡ true
is_return b e = grind (arith, nat_tests)

no_return : (b : ℕ) → b ≢ 13 → eqb b 13 ≡ false
no_return b e = grind (arith, nat_tests)

pub returned : (line front : List ℕ) (b : ℕ) → line ≡ front ++ b ∷ [] → b ≡ 13 → front ≡ without_return line
returned line front b is e = sym (ap without_return is ∙ without_return-append front b ∙ cond_true _ _ _ (is_return b e))

pub unreturned : (line front : List ℕ) (b : ℕ) → line ≡ front ++ b ∷ [] → b ≢ 13 → line ≡ without_return line
unreturned line front b is e = sym (ap without_return is ∙ without_return-append front b ∙ cond_false _ _ _ (no_return b e) ∙ sym is)
