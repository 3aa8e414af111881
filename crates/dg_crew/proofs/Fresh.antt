-- Passes with which nothing was made.
use Rattle.std.proofs.Common.{◌≡◌, ℕ, zero, suc, List, [], ◌∷◌, ◌++◌, Some, slice_get, length, refl, sym, ap, ◌∙◌, subst, arith}
use Rattle.dg_room.specs.Made.{AreFresh, Passed, none_made, passed}

at-end : {X : Type 0} (xs : List X) (x : X) → slice_get (xs ++ x ∷ []) (length xs) ≡ Some x
at-end [] x = refl
at-end (y ∷ ys) x = at-end ys x

at-before : {X : Type 0} (xs : List X) (x y : X) (k : ℕ) → slice_get xs k ≡ Some y → slice_get (xs ++ x ∷ []) k ≡ Some y
at-before [] x y k h = absurd cc
at-before (z ∷ zs) x y zero h = h
at-before (z ∷ zs) x y (suc k) h = at-before zs x y k h

-- one fewer
pub fresh-pop : (xs ys : List Passed) (p : Passed) → xs ≡ ys ++ p ∷ [] → AreFresh (length xs) xs → AreFresh (length ys) ys × (p ≡ passed (length ys) none_made)
fresh-pop xs ys p is fresh =
    let at : (k : ℕ) (q : Passed) → slice_get (ys ++ p ∷ []) k ≡ Some q → q ≡ passed k none_made = λ k q h. fresh.1 k q (ap (λ (l : List Passed). slice_get l k) is ∙ h) in
    ((refl, λ k q h. at k q (at-before ys p q k h)), at (length ys) p (at-end ys p))
