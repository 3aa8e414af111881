-- Sums of tallies.
use Rattle.std.proofs.Common.{◌≡◌, ◌+◌, List, [], ◌∷◌, ◌++◌, length, ap, ◌∙◌, sym, arith, length-append}
use Rattle.dg_pool.specs.Tallies.{Portion, Tally, no_acts, plus, portion, sum_of}

-- two tallies are one where all counts are
same_tally : (t u : Tally) → t.puts ≡ u.puts → t.takes ≡ u.takes → t.refusals ≡ u.refusals → t.stops ≡ u.stops → t.closes ≡ u.closes → t ≡ u
same_tally t u a b c d e = λ i. record { puts = a i; takes = b i; refusals = c i; stops = d i; closes = e i }

pub plus-assoc : (t u v : Tally) → plus (plus t u) v ≡ plus t (plus u v)
plus-assoc t u v = same_tally _ _ (omega arith) (omega arith) (omega arith) (omega arith) (omega arith)

pub plus-no_acts : (t : Tally) → plus t no_acts ≡ t
plus-no_acts t = same_tally _ _ (omega arith) (omega arith) (omega arith) (omega arith) (omega arith)

pub no_acts-plus : (t : Tally) → plus no_acts t ≡ t
no_acts-plus t = same_tally _ _ (omega arith) (omega arith) (omega arith) (omega arith) (omega arith)

pub sum_of-snoc : (ts : List Tally) (t : Tally) → sum_of (ts ++ t ∷ []) ≡ plus (sum_of ts) t
sum_of-snoc [] t = plus-no_acts t ∙ sym (no_acts-plus t)
sum_of-snoc (s ∷ ts) t = ap (plus s) (sum_of-snoc ts t) ∙ sym (plus-assoc s (sum_of ts) t)

-- one more of several passes
pub plus-sum_of-snoc : (t : Tally) (ts : List Tally) (u : Tally) → plus t (sum_of (ts ++ u ∷ [])) ≡ plus (plus t (sum_of ts)) u
plus-sum_of-snoc t ts u = ap (plus t) (sum_of-snoc ts u) ∙ sym (plus-assoc t (sum_of ts) u)

-- a share of one part more
pub merged : (old before one now : Portion) (ts : List Tally) (t : Tally) → before ≡ portion (old.parts + length ts) (plus old.tally (sum_of ts)) → one.parts ≡ 1
    → one.tally ≡ t → now ≡ portion (before.parts + one.parts) (plus before.tally one.tally)
    → now ≡ portion (old.parts + length (ts ++ t ∷ [])) (plus old.tally (sum_of (ts ++ t ∷ [])))
merged old before one now ts t so_far part tally merge =
    let parts : before.parts + one.parts ≡ old.parts + length (ts ++ t ∷ []) = omega (arith, ap (λ (p : Portion). p.parts) so_far, part, length-append ts (t ∷ [])) in
    let tallies : plus before.tally one.tally ≡ plus old.tally (sum_of (ts ++ t ∷ [])) =
    ap (plus before.tally) tally ∙ (ap (λ (p : Portion). plus p.tally t) so_far ∙ sym (plus-sum_of-snoc old.tally ts t)) in
    merge ∙ (λ i. portion (parts i) (tallies i))
