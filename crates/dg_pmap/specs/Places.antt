-- Where a key stands among pairs in key order.
use Rattle.std.specs.Prelude.{◌≡◌, ℕ, zero, suc, ◌+◌, ◌<◌, ◌≤◌, Option, Some, None, cond, List, [], ◌∷◌, length}
use Rattle.std.specs.Ordering.{is_gt}
use Rattle.std.specs.declared.cmp.Ordering.{Ordering}
use Rattle.std.specs.declared.cmp.Ordering.TheVariants.{Less, Equal, Greater}

-- how many keys stand below q
abbrev pub count_below : {K X : Type 0} → (K → K → Ordering) → K → List (K × X) → ℕ
count_below cmp q [] = 0
count_below cmp q (e ∷ es) = cond (is_gt (cmp q e.0)) (count_below cmp q es + 1) 0

-- the first pair whose key isn't below q
abbrev pub first_at_least : {K X : Type 0} → (K → K → Ordering) → K → List (K × X) → Option (K × X)
first_at_least cmp q [] = None
first_at_least cmp q (e ∷ es) = cond (is_gt (cmp q e.0)) (first_at_least cmp q es) (Some e)

-- q is above the first i keys
abbrev pub AboveFirst : {K X : Type 0} → (K → K → Ordering) → K → List (K × X) → ℕ → Type 0
AboveFirst cmp q es zero = Unit {0}
AboveFirst cmp q [] (suc i) = ⊥
AboveFirst cmp q (e ∷ es) (suc i) = (cmp q e.0 ≡ Greater) × AboveFirst cmp q es i

-- how q compares with the key at i, if there is one
abbrev pub AnswersAt : {K X : Type 0} → (K → K → Ordering) → K → List (K × X) → ℕ → Ordering → Type 0
AnswersAt cmp q [] i r = Unit {0}
AnswersAt cmp q (e ∷ es) zero r = cmp q e.0 ≡ r
AnswersAt cmp q (e ∷ es) (suc i) r = AnswersAt cmp q es i r

-- q is the key at i
pub record IsFoundAt {K X : Type 0} (cmp : K → K → Ordering) (q : K) (es : List (K × X)) (i : ℕ) : Type 0 where
  pub inside : i < length es
  pub above : AboveFirst cmp q es i
  pub equal : AnswersAt cmp q es i Equal

-- q would stand at i
pub record IsGapAt {K X : Type 0} (cmp : K → K → Ordering) (q : K) (es : List (K × X)) (i : ℕ) : Type 0 where
  pub inside : i ≤ length es
  pub above : AboveFirst cmp q es i
  pub below : AnswersAt cmp q es i Less
