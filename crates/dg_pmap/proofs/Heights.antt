-- How few pairs a height takes.
use Rattle.std.proofs.Common.{◌≡◌, ℕ, zero, suc, ◌+◌, ◌*◌, ◌/◌, ◌^◌, ◌<◌, ◌≤◌, ◌⊎◌, ⊎_elim, max, arith, subst, sym, refl, ◌∙◌, pow-suc, mul_comm, lit≤}
use Rattle.std.proofs.lemmas.Bool.{cases_lt}
use Rattle.dg_pmap.specs.Heights.{fewest}

pub lt-fewest : (n : ℕ) → n < fewest n
lt-fewest zero = omega arith
lt-fewest (suc zero) = omega arith
lt-fewest (suc (suc n)) = omega (arith, lt-fewest (suc n), lt-fewest n)

pub fewest-rises : (n : ℕ) → fewest n ≤ fewest (suc n)
fewest-rises zero = omega arith
fewest-rises (suc n) = omega arith

level : (n : ℕ) → fewest (suc n) ≤ fewest n + fewest n
level zero = omega arith
level (suc n) = omega (arith, fewest-rises n)

level_at : (a b m : ℕ) → b ≡ a → m ≡ suc a → fewest m ≤ fewest a + fewest b
level_at a b m e f =
    let P : ℕ → Type 0 = λ k. fewest m ≤ fewest a + fewest k in
    let Q : ℕ → Type 0 = λ k. fewest k ≤ fewest a + fewest a in
    subst P (sym e) (subst Q (sym f) (level a))

taller_at : (a b m : ℕ) → a ≡ suc b → m ≡ suc (suc b) → fewest m ≤ fewest a + fewest b
taller_at a b m e f =
    let P : ℕ → Type 0 = λ k. fewest m ≤ fewest k + fewest b in
    let Q : ℕ → Type 0 = λ k. fewest k ≤ fewest (suc b) + fewest b in
    subst P (sym e) (subst Q (sym f) (omega arith))

-- what a fork takes, its halves have
pub fewest-join : (a b : ℕ) → a ≤ b + 1 → b ≤ a + 1 → fewest (max a b + 1) ≤ fewest a + fewest b
fewest-join a b l n =
    ⊎_elim (λ (s : a < b). let t = taller_at b a (max a b + 1) (omega arith) (omega arith) in omega (arith, t))
    (λ (s : b ≤ a). ⊎_elim (λ (t : b < a). taller_at a b (max a b + 1) (omega arith) (omega arith))
    (λ (t : a ≤ b). level_at a b (max a b + 1) (omega arith) (omega arith)) (cases_lt b a))
    (cases_lt a b)

-- a tree of one pair is a chunk
pub flat_alone : (height size : ℕ) → height ≤ 1 → fewest height ≤ size → size ≤ 1 → height ≡ 0
flat_alone zero size l f s = refl
flat_alone (suc zero) size l f s = absurd (omega arith)
flat_alone (suc (suc n)) size l f s = absurd (omega arith)

twice : (n : ℕ) → 2 ^ ((n + 2) / 2) ≡ 2 * 2 ^ (n / 2)
twice n = let e : (n + 2) / 2 ≡ suc (n / 2) = omega arith in rw e (pow-suc 2 (n / 2) ∙ mul_comm (2 ^ (n / 2)) 2)

-- a height needs as many pairs as half of it doubles
pub power-le-fewest : (n : ℕ) → 2 ^ (n / 2) ≤ fewest n
power-le-fewest zero = lit≤ tt
power-le-fewest (suc zero) = lit≤ tt
power-le-fewest (suc (suc n)) =
    let e : suc (suc n) ≡ n + 2 = omega arith in
    let P : ℕ → Type 0 = λ k. 2 ^ (k / 2) ≤ fewest (suc n) + fewest n in
    subst P (sym e) (rw (twice n) (omega (arith, power-le-fewest n, fewest-rises n)))
