-- Lists in order: a stable sort, the order of texts, and that of bad places.
use Rattle.std.specs.Prelude.{ℕ, List, [], ◌∷◌, Bool, cond, fold}
use Rattle.std.specs.Ordering.{is_lt, nat_cmp, ordering_then}
use Rattle.std.specs.Cmp.Lexicographic.{slice_cmp}
use Rattle.std.specs.declared.cmp.Ordering.{Ordering}
use Rattle.dg_sources.specs.declared.bad.BadPlace.{BadPlace}

-- into a sorted list, in front of the first one that comes after it
abbrev pub place : {X : Type 0} → (X → X → Bool) → List X → X → List X
place before [] x = x ∷ []
place before (y ∷ ys) x = cond (before x y) (x ∷ y ∷ ys) (y ∷ place before ys x)

-- each is placed behind those that it doesn't come before
abbrev pub sorted : {X : Type 0} → (X → X → Bool) → List X → List X
sorted before xs = fold (place before) [] xs

-- texts, by their bytes
abbrev pub text_before : List ℕ → List ℕ → Bool
text_before a b = is_lt (slice_cmp nat_cmp a b)

-- bad places, by path and then by line
abbrev pub bad_cmp : BadPlace → BadPlace → Ordering
bad_cmp a b = ordering_then (slice_cmp nat_cmp a.path b.path) (nat_cmp a.line b.line)

abbrev pub bad_before : BadPlace → BadPlace → Bool
bad_before a b = is_lt (bad_cmp a b)
