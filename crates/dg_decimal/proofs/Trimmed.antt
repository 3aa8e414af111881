-- The digits of a rest, and the zeros that they end with.
use Rattle.std.proofs.Common.{◌≡◌, ◌≢◌, ℕ, zero, suc, ◌+◌, ◌*◌, ◌/◌, ◌%◌, ◌^◌, ◌≤◌, ◌<◌, List, [], ◌∷◌, length, true, false, refl, sym, ◌∙◌, ap, ⊎_elim, arith}
use Rattle.std.proofs.Math.Nat.{zero-div, zero-mod, mod-eq_of_lt, div-eq_of_lt, one-le-pow, div-lt_iff_lt-mul, le-div_iff_mul-le, div-add-mod', mod-lt, pow-succ', div-one, zero-mul}
use Rattle.std.proofs.lemmas.Bool.{ne_eqb, eqb-true, cases_lt, cases_Bool, cond_both}
use Rattle.std.proofs.lemmas.Nat.{pow-add}
use Rattle.std.proofs.lemmas.Str.{digit_value_digit}
use Rattle.std.specs.Char.{digit_value}
use Rattle.std.specs.Prelude.{◌==◌}
use Rattle.std.specs.Str.Parse.{AllDigits, digits_value}
use Rattle.dg_decimal.specs.Canonical.{padded_digits, before_trimmed, without_zeros}
use Rattle.dg_decimal.proofs.Digits.{value_after}

pub without_zeros-padded_zero : (count : ℕ) → without_zeros (padded_digits count 0) ≡ []
without_zeros-padded_zero zero = refl
without_zeros-padded_zero (suc count) = rw (zero-div, zero-mod, without_zeros-padded_zero count) refl

before_trimmed-other : (digit : ℕ) (digits : List ℕ) → digit ≢ 48 → before_trimmed digit digits ≡ digit ∷ digits
before_trimmed-other digit [] ne = rw (ne_eqb digit 48 ne) refl
before_trimmed-other digit (d ∷ ds) ne = refl

-- the first digit of a rest that is not 0 stays
pub without_zeros-padded : (count rest : ℕ) → 0 < rest → rest < 10 ^ suc count
    → without_zeros (padded_digits (suc count) rest) ≡ (48 + rest / 10 ^ count) ∷ without_zeros (padded_digits count (rest % 10 ^ count))
without_zeros-padded zero rest some below = before_trimmed-other (48 + rest / 1) [] (λ e. absurd (omega (arith, e, div-one rest, some)))
without_zeros-padded (suc count) rest some below = ⊎_elim
    (λ (h : rest < 10 ^ suc count).
    let none = div-eq_of_lt h in
    let same = mod-eq_of_lt h in
    let more = without_zeros-padded count rest some h in
    rw (none, same, more) refl)
    (λ (h : 10 ^ suc count ≤ rest).
    let first : 1 ≤ rest / 10 ^ suc count = (le-div_iff_mul-le (one-le-pow (suc count) 10 (omega arith))).1 (omega (arith, h)) in
    before_trimmed-other (48 + rest / 10 ^ suc count) (without_zeros (padded_digits (suc count) (rest % 10 ^ suc count)))
    (λ e. absurd (omega (arith, e, first))))
    (cases_lt rest (10 ^ suc count))

-- ---- the number that the digits spell

pub AllDigits-padded : (count rest : ℕ) → rest < 10 ^ count → AllDigits 10 (padded_digits count rest)
AllDigits-padded zero rest below = tt
AllDigits-padded (suc count) rest below =
    let tens : 10 ^ suc count ≡ 10 * 10 ^ count = pow-succ' 10 count in
    let first : rest / 10 ^ count < 10 = (div-lt_iff_lt-mul (one-le-pow count 10 (omega arith))).1 (omega (arith, below, tens)) in
    (digit_below first, AllDigits-padded count (rest % 10 ^ count) (mod-lt rest (one-le-pow count 10 (omega arith))))
  where
    digit_below : {digit : ℕ} → digit < 10 → digit_value (48 + digit) < 10
    digit_below {digit} h = omega (arith, digit_value_digit (48 + digit) (omega arith, omega (arith, h)), h)

pub length-padded : (count rest : ℕ) → length (padded_digits count rest) ≡ count
length-padded zero rest = refl
length-padded (suc count) rest = omega (arith, length-padded count (rest % 10 ^ count))

-- a digit before others
digit_and : (digit : ℕ) (ds : List ℕ) → digits_value 10 (digit ∷ ds) ≡ digit_value digit * 10 ^ length ds + digits_value 10 ds
digit_and digit ds =
    let none : 0 * 10 + digit_value digit ≡ digit_value digit = omega arith in
    value_after (0 * 10 + digit_value digit) ds ∙ ap (λ (n : ℕ). n * 10 ^ length ds + digits_value 10 ds) none

pub digits_value-padded : (count rest : ℕ) → rest < 10 ^ count → digits_value 10 (padded_digits count rest) ≡ rest
digits_value-padded zero rest below = omega (arith, below)
digits_value-padded (suc count) rest below =
    let tens : 10 ^ suc count ≡ 10 * 10 ^ count = pow-succ' 10 count in
    let first : rest / 10 ^ count < 10 = (div-lt_iff_lt-mul (one-le-pow count 10 (omega arith))).1 (omega (arith, below, tens)) in
    let digit : digit_value (48 + rest / 10 ^ count) ≡ rest / 10 ^ count =
    omega (arith, digit_value_digit (48 + rest / 10 ^ count) (omega arith, omega (arith, first))) in
    let more = digits_value-padded count (rest % 10 ^ count) (mod-lt rest (one-le-pow count 10 (omega arith))) in
    let all = digit_and (48 + rest / 10 ^ count) (padded_digits count (rest % 10 ^ count)) in
    all ∙ (rw (digit, length-padded count (rest % 10 ^ count), more) (div-add-mod' rest (10 ^ count)))

-- the zeros that are left out make up for the places
pub record Zeros (all kept : List ℕ) : Type 0 where
  pub count : ℕ
  pub places : length kept + count ≡ length all
  pub value : digits_value 10 all ≡ digits_value 10 kept * 10 ^ count

zeros_before : (digit : ℕ) (ds kept : List ℕ) → Zeros ds kept → Zeros (digit ∷ ds) (before_trimmed digit kept)
zeros_before digit ds (k ∷ ks) z =
    let tens : 10 ^ length ds ≡ 10 ^ length (k ∷ ks) * 10 ^ z.count = ap (λ (n : ℕ). 10 ^ n) (sym z.places) ∙ pow-add 10 (length (k ∷ ks)) z.count in
    record {
      count = z.count;
      places = omega (arith, z.places);
      value = digit_and digit ds ∙ (rw (tens, z.value, digit_and digit (k ∷ ks)) (omega arith));
    }
zeros_before digit ds [] z = ⊎_elim
    (λ (e : (digit == 48) ≡ true). zero_left digit ds z e)
    (λ (e : (digit == 48) ≡ false). digit_left digit ds z e)
    (cases_Bool (digit == 48))
  where
    none : (ds : List ℕ) (z : Zeros ds []) → digits_value 10 ds ≡ 0
    none ds z = z.value ∙ zero-mul (10 ^ z.count)

    zero_left : (digit : ℕ) (ds : List ℕ) (z : Zeros ds []) → (digit == 48) ≡ true → Zeros (digit ∷ ds) (before_trimmed digit [])
    zero_left digit ds z e =
        let is = eqb-true digit 48 e in
        rw e (record {
          count = length (digit ∷ ds);
          places = omega arith;
          value = digit_and digit ds ∙ (rw (is, none ds z) (omega (arith, zero-mul (10 ^ length ds), zero-mul (10 ^ length (digit ∷ ds)))));
        })

    digit_left : (digit : ℕ) (ds : List ℕ) (z : Zeros ds []) → (digit == 48) ≡ false → Zeros (digit ∷ ds) (before_trimmed digit [])
    digit_left digit ds z e =
        let places : z.count ≡ length ds = omega (arith, z.places) in
        rw e (record {
          count = z.count;
          places = omega (arith, places);
          value = digit_and digit ds ∙ (rw (none ds z, places) (omega arith));
        })

pub zeros : (ds : List ℕ) → Zeros ds (without_zeros ds)
zeros [] = record { count = 0; places = refl; value = refl }
zeros (d ∷ ds) = zeros_before d ds (without_zeros ds) (zeros ds)

AllDigits-before : (digit : ℕ) (kept : List ℕ) → digit_value digit < 10 → AllDigits 10 kept → AllDigits 10 (before_trimmed digit kept)
AllDigits-before digit [] h all = cond_both (digit == 48) [] (digit ∷ []) (AllDigits 10) (λ _. tt) (λ _. (h, tt))
AllDigits-before digit (k ∷ ks) h all = (h, all)

pub AllDigits-without_zeros : (ds : List ℕ) → AllDigits 10 ds → AllDigits 10 (without_zeros ds)
AllDigits-without_zeros [] all = tt
AllDigits-without_zeros (d ∷ ds) all = AllDigits-before d (without_zeros ds) all.0 (AllDigits-without_zeros ds all.1)
