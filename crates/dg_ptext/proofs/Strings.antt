-- One more byte of a numeral and of a string.
use Rattle.std.proofs.Common.{◌≡◌, ℕ, ◌+◌, ◌-◌, ◌*◌, ◌<◌, ◌≤◌, List, [], ◌∷◌, ◌++◌, length, length-drop, take, drop, zero, suc, refl, sym, ap, ◌∙◌, arith, Option, Some, None, ◌≢◌, option_and_then}
use Rattle.std.proofs.Math.Nat.{mul-le-mul_left}
use Rattle.std.proofs.Math.Seq.{take-length}
use Rattle.std.specs.Char.{digit_value}
use Rattle.dg_ptext.specs.declared.escapes.Escape.{Escape}
use Rattle.dg_ptext.specs.Token.{numeral, body, unit}

numeral_step : (base places value taken b : ℕ) (bs : List ℕ) → 0 < places → digit_value b < base
    → numeral base places value taken (b ∷ bs) ≡ numeral base (places - 1) (value * base + digit_value b) (taken + 1) bs
unfolding numeral
numeral_step base places value taken b bs some digit = grind arith

pub numeral-more : (base places value taken b : ℕ) (bs rest : List ℕ) → rest ≡ b ∷ bs → 0 < places → digit_value b < base
    → numeral base places value taken rest ≡ numeral base (places - 1) (value * base + digit_value b) (taken + 1) bs
numeral-more base places value taken b bs rest is some digit =
    ap (numeral base places value taken) is ∙ numeral_step base places value taken b bs some digit

pub numeral-full : (base places value taken : ℕ) (rest : List ℕ) → places ≡ 0
    → numeral base places value taken rest ≡ record { value = value; taken = taken }
unfolding numeral
numeral-full base places value taken [] none = refl
numeral-full base places value taken (b ∷ bs) none = grind (arith, none)

numeral_stop : (base places value taken b : ℕ) (bs : List ℕ) → base ≤ digit_value b
    → numeral base places value taken (b ∷ bs) ≡ record { value = value; taken = taken }
unfolding numeral
numeral_stop base places value taken b bs digit = grind arith

pub numeral-other : (base places value taken b : ℕ) (bs rest : List ℕ) → rest ≡ b ∷ bs → base ≤ digit_value b
    → numeral base places value taken rest ≡ record { value = value; taken = taken }
numeral-other base places value taken b bs rest is digit =
    ap (numeral base places value taken) is ∙ numeral_stop base places value taken b bs digit

pub numeral-end : (base places value taken : ℕ) (rest : List ℕ) → length rest ≡ 0
    → numeral base places value taken rest ≡ record { value = value; taken = taken }
unfolding numeral
numeral-end base places value taken [] none = refl
numeral-end base places value taken (b ∷ bs) none = absurd (omega (arith, none))

pub scaled : (value base : ℕ) → base ≤ 16 → value * base ≤ value * 16
scaled value base h = mul-le-mul_left value h

-- the values that at most three digits leave room for, when so many more may come
abbrev pub room : ℕ → ℕ
room zero = 4096
room (suc zero) = 256
room (suc (suc zero)) = 16
room (suc (suc (suc _))) = 1

pub room-some : (left : ℕ) → 0 < left → room left ≤ 256
room-some zero h = absurd (omega (arith, h))
room-some (suc zero) h = omega arith
room-some (suc (suc zero)) h = omega arith
room-some (suc (suc (suc _))) h = omega arith

pub room-none : (left : ℕ) → 0 < room left
room-none zero = omega arith
room-none (suc zero) = omega arith
room-none (suc (suc zero)) = omega arith
room-none (suc (suc (suc _))) = omega arith

pub room-more : (left value product digit : ℕ) → 0 < left → left ≤ 3 → value < room left → product ≤ value * 16 → digit < 16
    → product + digit < room (left - 1)
room-more zero value product digit some few h p d = absurd (omega (arith, some))
room-more (suc zero) value product digit some few h p d = omega (arith, h, p, d)
room-more (suc (suc zero)) value product digit some few h p d = omega (arith, h, p, d)
room-more (suc (suc (suc zero))) value product digit some few h p d = omega (arith, h, p, d)
room-more (suc (suc (suc (suc n)))) value product digit some few h p d = absurd (omega (arith, few))

-- what a slice from a place to the end is
pub rest_from : (n : ℕ) (xs : List ℕ) → take (length xs - n) (drop n xs) ≡ drop n xs
rest_from n xs = ap (λ (k : ℕ). take k (drop n xs)) (sym (length-drop n xs)) ∙ take-length (drop n xs)

pub body-skipped : (quote : ℕ) (before : List ℕ) (taken skipped : ℕ) (bs : List ℕ)
    → body quote before taken skipped bs ≡ body quote before (taken + skipped) 0 (drop skipped bs)
unfolding body
body-skipped quote before taken zero bs = ap (λ (n : ℕ). body quote before n 0 bs) (omega arith)
body-skipped quote before taken (suc skipped) [] = refl
body-skipped quote before taken (suc skipped) (b ∷ bs) =
    let e : taken + 1 + skipped ≡ taken + suc skipped = omega arith in
    body-skipped quote before (taken + 1) skipped bs ∙ ap (λ (n : ℕ). body quote before n 0 (drop skipped bs)) e

-- what the bytes of a string give from a place on: its end, a place where it has none, or one more byte of its text
pub body-quote : (quote : ℕ) (before : List ℕ) (taken b : ℕ) (bs rest : List ℕ) → rest ≡ b ∷ bs → b ≡ quote
    → body quote before taken 0 rest ≡ Some (record { bytes = before; taken = taken + 1 })
unfolding body
body-quote quote before taken b bs rest is end = rw is (grind (arith, end))

pub body-line_feed : (quote : ℕ) (before : List ℕ) (taken b : ℕ) (bs rest : List ℕ) → rest ≡ b ∷ bs → b ≢ quote → b ≡ 10
    → body quote before taken 0 rest ≡ None
unfolding body
body-line_feed quote before taken b bs rest is more line = rw is (grind (arith, more, line))

pub body-more : (quote : ℕ) (before : List ℕ) (taken b : ℕ) (bs rest : List ℕ) (found : Option Escape) → rest ≡ b ∷ bs → b ≢ quote → b ≢ 10
    → unit b bs ≡ found
    → body quote before taken 0 rest ≡ option_and_then (λ e. body quote (before ++ e.value ∷ []) (taken + 1) e.taken bs) found
unfolding body
body-more quote before taken b bs rest found is more line e = rw (is, ← e) (grind (arith, more, line))

pub body-end : (quote : ℕ) (before : List ℕ) (taken : ℕ) (rest : List ℕ) → length rest ≡ 0
    → body quote before taken 0 rest ≡ None
unfolding body
body-end quote before taken [] none = refl
body-end quote before taken (b ∷ bs) none = absurd (omega (arith, none))
