-- What was made with passes, one after the other.
use Rattle.std.proofs.Common.{◌≡◌, ◌+◌, List, [], ◌∷◌, ◌++◌, refl, sym, ap, ◌∙◌, arith}
use Rattle.dg_room.specs.Made.{Passed, sum_of}

-- one more pass, with which nothing was followed
pub follows-one : (ps : List Passed) (p : Passed) → p.made.follows ≡ 0 → (sum_of (ps ++ p ∷ [])).follows ≡ (sum_of ps).follows
follows-one [] p none = omega (arith, none)
follows-one (q ∷ qs) p none = ap (λ n. q.made.follows + n) (follows-one qs p none)

-- or evicted
pub evictions-one : (ps : List Passed) (p : Passed) → p.made.evictions ≡ 0 → (sum_of (ps ++ p ∷ [])).evictions ≡ (sum_of ps).evictions
evictions-one [] p none = omega (arith, none)
evictions-one (q ∷ qs) p none = ap (λ n. q.made.evictions + n) (evictions-one qs p none)
