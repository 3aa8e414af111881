-- A loop that takes the elements of a vector one after the other.
use Rattle.std.proofs.Common.{◌≡◌, List, [], ◌∷◌, ◌++◌, Option, Some, ap, sym, ◌∙◌, subst, append_assoc}
use Rattle.std.specs.declared.vec.IntoIter.{IntoIter}
use Rattle.std.specs.Vec.Iter.{into_iter_items, into_iter_steps}

-- what is left is the next one and what is left behind it
pub taken : {X Z : Type 0} (s t : IntoIter X Z) (r : Option X) (x : X) → r ≡ Some x → into_iter_steps s r t → into_iter_items s ≡ x ∷ into_iter_items t
taken s t r x is steps = (subst (λ o. into_iter_steps s o t) is steps).0

module _ {X Z : Type 0} (s t : IntoIter X Z) (r : Option X) (x : X) (is : r ≡ Some x) (steps : into_iter_steps s r t) (all before : List X) (rest : before ++ into_iter_items s ≡ all) where
  pub rest-next : (before ++ x ∷ []) ++ into_iter_items t ≡ all
  rest-next = append_assoc before (x ∷ []) (into_iter_items t) ∙ ap (λ xs. before ++ xs) (sym (taken s t r x is steps)) ∙ rest
