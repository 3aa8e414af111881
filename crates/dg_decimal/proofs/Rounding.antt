-- The nearest whole number to a quotient.
use Rattle.std.proofs.Common.{◌≡◌, ℕ, ◌+◌, ◌-◌, ◌*◌, ◌^◌, ◌≤◌, ◌<◌, List, ◌++◌, length, take, drop, get_or, min, refl, sym, ◌∙◌, ap, ⊎_elim, arith, length-append, length-drop}
use Rattle.std.proofs.Math.Nat.{mul_assoc, mul-div-mul_right, div-eq_of_lt-le, div-eq_of_lt, mul-le-mul_left, mul-le-mul_right, pow-le-pow_right, one-le-pow, zero-mul}
use Rattle.std.proofs.lemmas.Nat.{pow-add}
use Rattle.std.proofs.lemmas.Str.Parse.{digit_at}
use Rattle.std.proofs.lemmas.Int.Digits.{digits_value-lt}
use Rattle.std.proofs.lemmas.Bool.{cases_lt}
use Rattle.std.specs.Str.Parse.{AllDigits, digits_value}
use Rattle.dg_decimal.specs.Value.{nearest}
use Rattle.dg_decimal.specs.declared.magnitude.TheConstants.{CAP}
use Rattle.dg_decimal.proofs.Digits.{value_split, AllDigits-drop}

-- a quotient below one half
pub nearest_small : (p q : ℕ) → 2 * p < q → nearest p q ≡ 0
nearest_small p q h = div-eq_of_lt (omega (arith, h))

-- a whole quotient
pub nearest_whole : (x q : ℕ) → 0 < q → nearest (x * q) q ≡ x
nearest_whole x q h = div-eq_of_lt-le (2 * q) (omega (arith, h)) (omega (arith, h))

-- a factor that both have
pub nearest_scale : (p q k : ℕ) → 0 < k → nearest (p * k) (q * k) ≡ nearest p q
nearest_scale p q k h =
    let up : 2 * (p * k) + q * k ≡ (2 * p + q) * k = omega arith in
    let down : 2 * (q * k) ≡ (2 * q) * k = omega arith in
    rw (up, down) (mul-div-mul_right (2 * p + q) (2 * q) h)

-- one more digit behind a whole number, and a rest that is below that digit's place
pub nearest_low : (a d r q : ℕ) → d < 5 → r < q → nearest (a * (q * 10) + (d * q + r)) (q * 10) ≡ a
nearest_low a d r q low h =
    let few : d * q ≤ 4 * q = mul-le-mul_right q (omega (arith, low)) in
    div-eq_of_lt-le (2 * (q * 10)) (omega (arith, h)) (omega (arith, h, few))

pub nearest_high : (a d r q : ℕ) → 5 ≤ d → d < 10 → r < q → nearest (a * (q * 10) + (d * q + r)) (q * 10) ≡ a + 1
nearest_high a d r q low high h =
    let few : d * q ≤ 9 * q = mul-le-mul_right q (omega (arith, high)) in
    let many : 5 * q ≤ d * q = mul-le-mul_right q low in
    div-eq_of_lt-le (2 * (q * 10)) (omega (arith, h, many)) (omega (arith, h, few))

ten_pos : (k : ℕ) → 0 < 10 ^ k
ten_pos k = one-le-pow k 10 (omega arith)

-- more powers of ten above than below
pub nearest_raised : (value up down : ℕ) → down ≤ up → nearest (value * 10 ^ up) (10 ^ down) ≡ value * 10 ^ (up - down)
nearest_raised value up down h =
    let split : 10 ^ up ≡ 10 ^ (up - down) * 10 ^ down =
    let e : up ≡ (up - down) + down = omega (arith, h) in
    ap (λ (k : ℕ). 10 ^ k) e ∙ pow-add 10 (up - down) down in
    let moved = mul_assoc value (10 ^ (up - down)) (10 ^ down) in
    ap (λ (p : ℕ). nearest (value * p) (10 ^ down)) split
    ∙ (ap (λ (p : ℕ). nearest p (10 ^ down)) (sym moved)
    ∙ nearest_whole (value * 10 ^ (up - down)) (10 ^ down) (ten_pos down))

-- fewer powers of ten above than below
pub nearest_lowered : (value up down : ℕ) → up ≤ down → nearest (value * 10 ^ up) (10 ^ down) ≡ nearest value (10 ^ (down - up))
nearest_lowered value up down h =
    let split : 10 ^ down ≡ 10 ^ (down - up) * 10 ^ up =
    let e : down ≡ (down - up) + up = omega (arith, h) in
    ap (λ (k : ℕ). 10 ^ k) e ∙ pow-add 10 (down - up) up in
    rw split (nearest_scale value (10 ^ (down - up)) (10 ^ up) (ten_pos up))

-- the digits that stay, and the one behind them, which alone decides how they are rounded
tens_split : (ds : List ℕ) (kept : ℕ) → kept < length ds → 10 ^ (length ds - kept) ≡ 10 ^ length (drop (kept + 1) ds) * 10
tens_split ds kept h =
    let e : length ds - kept ≡ length (drop (kept + 1) ds) + 1 = omega (arith, h, length-drop (kept + 1) ds) in
    ap (λ (k : ℕ). 10 ^ k) e ∙ pow-add 10 (length (drop (kept + 1) ds)) 1

pub nearest_down : (ds : List ℕ) (kept : ℕ) → AllDigits 10 ds → kept < length ds → get_or ds kept 0 < 53
    → nearest (digits_value 10 ds) (10 ^ (length ds - kept)) ≡ digits_value 10 (take kept ds)
nearest_down ds kept all h low =
    rw (tens_split ds kept h, value_split ds kept all h)
    (nearest_low (digits_value 10 (take kept ds)) (get_or ds kept 0 - 48) (digits_value 10 (drop (kept + 1) ds)) (10 ^ length (drop (kept + 1) ds))
    (omega (arith, low)) (digits_value-lt 10 (drop (kept + 1) ds) (AllDigits-drop (kept + 1) ds all)))

pub nearest_up : (ds : List ℕ) (kept : ℕ) → AllDigits 10 ds → kept < length ds → 53 ≤ get_or ds kept 0
    → nearest (digits_value 10 ds) (10 ^ (length ds - kept)) ≡ digits_value 10 (take kept ds) + 1
nearest_up ds kept all h high =
    let range = digit_at ds kept all h in
    rw (tens_split ds kept h, value_split ds kept all h)
    (nearest_high (digits_value 10 (take kept ds)) (get_or ds kept 0 - 48) (digits_value 10 (drop (kept + 1) ds)) (10 ^ length (drop (kept + 1) ds))
    (omega (arith, high)) (omega (arith, range)) (digits_value-lt 10 (drop (kept + 1) ds) (AllDigits-drop (kept + 1) ds all)))

-- digits that lie behind the first place that counts, all of them
pub nearest_none : (ds : List ℕ) (tens : ℕ) → AllDigits 10 ds → length ds < tens → nearest (digits_value 10 ds) (10 ^ tens) ≡ 0
nearest_none ds tens all h =
    let small = digits_value-lt 10 ds all in
    let one : 10 ^ (length ds + 1) ≤ 10 ^ tens = pow-le-pow_right (omega arith) (omega (arith, h)) in
    let step : 10 ^ (length ds + 1) ≡ 10 ^ length ds * 10 = pow-add 10 (length ds) 1 in
    nearest_small (digits_value 10 ds) (10 ^ tens) (omega (arith, small, one, step))

-- a number that is not 0, raised by so many tens, is at the cap
at_cap : (value tens : ℕ) → 0 < value → 19 ≤ tens → min (value * 10 ^ tens) CAP ≡ CAP
at_cap value tens h many =
    let high : 10 ^ 19 ≤ 10 ^ tens = pow-le-pow_right (omega arith) many in
    let more : 1 * 10 ^ tens ≤ value * 10 ^ tens = mul-le-mul_right (10 ^ tens) h in
    omega (arith, high, more)

-- all raisings from there on are one, under the cap
pub raised-capped : (value few many : ℕ) → 19 ≤ few → 19 ≤ many → min (value * 10 ^ few) CAP ≡ min (value * 10 ^ many) CAP
raised-capped value few many f m = ⊎_elim
    (λ (h : 0 < value). at_cap value few h f ∙ sym (at_cap value many h m))
    (λ (h : value ≤ 0). let none : value ≡ 0 = omega (arith, h) in rw none (rw (zero-mul, zero-mul) refl))
    (cases_lt 0 value)

capped_first : (value power : ℕ) → 1 ≤ power → min (min value CAP * power) CAP ≡ min (value * power) CAP
capped_first value power h = ⊎_elim
    (λ (small : value < CAP). let e : min value CAP ≡ value = omega (arith, small) in rw e refl)
    (λ (big : CAP ≤ value).
    let e : min value CAP ≡ CAP = omega (arith, big) in
    let first : CAP * 1 ≤ CAP * power = mul-le-mul_left CAP h in
    let second : CAP * power ≤ value * power = mul-le-mul_right power big in
    rw e (omega (arith, first, second)))
    (cases_lt value CAP)

-- a front may be capped before it is raised
pub raised-front : (value tens : ℕ) → min (min value CAP * 10 ^ min tens 19) CAP ≡ min (value * 10 ^ tens) CAP
raised-front value tens =
    let big = one-le-pow (min tens 19) 10 (omega arith) in
    capped_first value (10 ^ min tens 19) big
    ∙ ⊎_elim
    (λ (h : tens < 19). let e : min tens 19 ≡ tens = omega (arith, h) in rw e refl)
    (λ (h : 19 ≤ tens). let e : min tens 19 ≡ 19 = omega (arith, h) in rw e (raised-capped value 19 tens (omega arith) h))
    (cases_lt tens 19)

-- Exponents that are further off than the text is long are one: either way, under the cap.
far_up : (value places few many : ℕ) → places + 10 ≤ few → places + 10 ≤ many
    → min (nearest (value * 10 ^ (9 + few)) (10 ^ places)) CAP ≡ min (nearest (value * 10 ^ (9 + many)) (10 ^ places)) CAP
far_up value places few many f m =
    ap (λ (v : ℕ). min v CAP) (nearest_raised value (9 + few) places (omega (arith, f)))
    ∙ (raised-capped value (9 + few - places) (9 + many - places) (omega (arith, f)) (omega (arith, m))
    ∙ ap (λ (v : ℕ). min v CAP) (sym (nearest_raised value (9 + many) places (omega (arith, m)))))

far_down : (ws fs : List ℕ) (exponent : ℕ) → AllDigits 10 (ws ++ fs) → length ws + 10 ≤ exponent
    → nearest (digits_value 10 (ws ++ fs) * 10 ^ 9) (10 ^ (length fs + exponent)) ≡ 0
far_down ws fs exponent all h =
    nearest_lowered (digits_value 10 (ws ++ fs)) 9 (length fs + exponent) (omega (arith, h))
    ∙ nearest_none (ws ++ fs) (length fs + exponent - 9) all (omega (arith, h, length-append ws fs))

-- an exponent may be capped, since no text is as long as the cap
pub exponent-up : (value places exponent : ℕ) → places < 2 ^ 63
    → min (nearest (value * 10 ^ (9 + min exponent CAP)) (10 ^ places)) CAP ≡ min (nearest (value * 10 ^ (9 + exponent)) (10 ^ places)) CAP
exponent-up value places exponent short = ⊎_elim
    (λ (h : exponent < CAP). ap (λ (x : ℕ). min (nearest (value * 10 ^ (9 + x)) (10 ^ places)) CAP) (omega (arith, h)))
    (λ (h : CAP ≤ exponent). far_up value places (min exponent CAP) exponent (omega (arith, short, h)) (omega (arith, short, h)))
    (cases_lt exponent CAP)

pub exponent-down : (ws fs : List ℕ) (exponent : ℕ) → AllDigits 10 (ws ++ fs) → length ws < 2 ^ 63
    → nearest (digits_value 10 (ws ++ fs) * 10 ^ 9) (10 ^ (length fs + min exponent CAP))
    ≡ nearest (digits_value 10 (ws ++ fs) * 10 ^ 9) (10 ^ (length fs + exponent))
exponent-down ws fs exponent all short = ⊎_elim
    (λ (h : exponent < CAP). ap (λ (x : ℕ). nearest (digits_value 10 (ws ++ fs) * 10 ^ 9) (10 ^ (length fs + x))) (omega (arith, h)))
    (λ (h : CAP ≤ exponent). far_down ws fs (min exponent CAP) all (omega (arith, short, h)) ∙ sym (far_down ws fs exponent all (omega (arith, short, h))))
    (cases_lt exponent CAP)
