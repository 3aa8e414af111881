-- A depth-first walk: what follows is taken in order, and each is listed when it is first met, once.
use Rattle.std.specs.Prelude.{ℕ, zero, suc, List, [], ◌∷◌, ◌++◌, Bool, cond, fold}
use Rattle.std.specs.List.{list_any}

-- those met so far, and then those that are first met from one on; at most so many levels deep. `same`
-- tells which are the same
abbrev pub walk_within : {X : Type 0} → (X → X → Bool) → ℕ → (X → List X) → List X → X → List X
walk_within same zero follow met x = met
walk_within same (suc k) follow met x =
    cond (list_any (same x) met) met (fold (walk_within same k follow) (met ++ x ∷ []) (follow x))
