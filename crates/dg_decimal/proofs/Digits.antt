-- Lists of digits, and the numbers that they spell.
use Rattle.std.proofs.Common.{◌≡◌, ℕ, ◌+◌, ◌-◌, ◌*◌, ◌^◌, ◌≤◌, ◌<◌, min, List, [], ◌∷◌, ◌++◌, length, take, drop, get_or, true, refl, sym, ◌∙◌, ap, ⊎_elim, arith, rules, length-take, length-drop, take-append-drop, append-nil}
use Rattle.std.proofs.Math.Nat.{pow-suc, sub_self}
use Rattle.std.proofs.Math.Seq.{take-length, take-append-add}
use Rattle.std.proofs.lemmas.Bool.{cases_lt}
use Rattle.std.proofs.lemmas.List.{get_or-take, get_or-drop, take-append-le, drop_more}
use Rattle.std.proofs.lemmas.List.Folds.{length-prefix_len}
use Rattle.std.proofs.lemmas.List.Sums.{prefix_len_passes}
use Rattle.std.proofs.lemmas.Str.{digit_value_digit}
use Rattle.std.proofs.lemmas.Str.Parse.{digit_at, numerals_by_value, tells_by_index}
use Rattle.std.specs.Int.{IsInRange}
use Rattle.std.specs.Char.{digit_value, is_ascii_digit}
use Rattle.std.specs.List.{prefix_len, take_while, list_all}
use Rattle.std.specs.Str.Parse.{AllDigits, digits_value, digits_value_after}

-- digits before more digits
pub value-append : (n : ℕ) (xs ys : List ℕ)
    → digits_value_after 10 n (xs ++ ys) ≡ digits_value_after 10 (digits_value_after 10 n xs) ys
value-append n [] ys = refl
value-append n (x ∷ xs) ys = value-append (n * 10 + digit_value x) xs ys

-- digits behind a number
pub value_after : (n : ℕ) (ds : List ℕ) → digits_value_after 10 n ds ≡ n * 10 ^ length ds + digits_value 10 ds
value_after n [] = omega arith
value_after n (d ∷ ds) =
    let here = value_after (n * 10 + digit_value d) ds in
    let alone = value_after (0 * 10 + digit_value d) ds in
    rw pow-suc (omega (arith, here, alone))

-- a number may be capped before more digits follow, where it is capped at the end
pub value-capped : (cap n : ℕ) (ds : List ℕ)
    → min (digits_value_after 10 n ds) cap ≡ min (digits_value_after 10 (min n cap) ds) cap
value-capped cap n [] = omega arith
value-capped cap n (d ∷ ds) =
    let e : min (n * 10 + digit_value d) cap ≡ min (min n cap * 10 + digit_value d) cap = omega arith in
    value-capped cap (n * 10 + digit_value d) ds
    ∙ (ap (λ (v : ℕ). min (digits_value_after 10 v ds) cap) e
    ∙ sym (value-capped cap (min n cap * 10 + digit_value d) ds))

pub AllDigits-append : (xs ys : List ℕ) → AllDigits 10 xs → AllDigits 10 ys → AllDigits 10 (xs ++ ys)
AllDigits-append [] ys p q = q
AllDigits-append (x ∷ xs) ys p q = (p.0, AllDigits-append xs ys p.1 q)

-- digits by their places
pub by_places : (ds : List ℕ) → ((i : ℕ) → i < length ds → IsInRange 48 57 (get_or ds i 0)) → AllDigits 10 ds
by_places = (numerals_by_value (λ ds. (i : ℕ) → i < length ds → IsInRange 48 57 (get_or ds i 0)) tells_by_index).to

pub AllDigits-take : (n : ℕ) (ds : List ℕ) → AllDigits 10 ds → AllDigits 10 (take n ds)
AllDigits-take n ds all = by_places (take n ds) (λ i h.
    let short : (i < n) × (i < length ds) = omega (arith, h, length-take n ds) in
    let here : i < n = short.0 in
    rw get_or-take (digit_at ds i all short.1))

pub AllDigits-drop : (n : ℕ) (ds : List ℕ) → AllDigits 10 ds → AllDigits 10 (drop n ds)
AllDigits-drop n ds all = by_places (drop n ds) (λ i h.
    rw get_or-drop (digit_at ds (n + i) all (omega (arith, h, length-drop n ds))))

-- a test of each byte
pub from_list_all : (ds : List ℕ) → list_all is_ascii_digit ds ≡ true → AllDigits 10 ds
from_list_all = (numerals_by_value (λ ds. list_all is_ascii_digit ds ≡ true) (search rules)).to

pub to_list_all : (ds : List ℕ) → AllDigits 10 ds → list_all is_ascii_digit ds ≡ true
to_list_all = (numerals_by_value (λ ds. list_all is_ascii_digit ds ≡ true) (search rules)).from

pub is_digit-range : (c : ℕ) → is_ascii_digit c ≡ true → IsInRange 48 57 c
is_digit-range c e = grind (arith, e)

pub AllDigits-take_while : (text : List ℕ) → AllDigits 10 (take_while is_ascii_digit text)
AllDigits-take_while text = by_places (take_while is_ascii_digit text) (λ i h.
    let here : i < prefix_len is_ascii_digit text = omega (arith, h, length-prefix_len is_ascii_digit text) in
    rw get_or-take (is_digit-range (get_or text i 0) (prefix_len_passes is_ascii_digit text i 0 here)))

-- the first digits of two lists, one behind the other
pub take-append : (count : ℕ) (xs ys : List ℕ)
    → take (min count (length xs)) xs ++ take (count - min count (length xs)) ys ≡ take count (xs ++ ys)
take-append count xs ys = ⊎_elim
    (λ (h : count < length xs).
    let few : min count (length xs) ≡ count = omega (arith, h) in
    let none : count - min count (length xs) ≡ 0 = omega (arith, h) in
    rw (few, sub_self) (append-nil (take count xs) ∙ sym (take-append-le count xs ys (omega (arith, h)))))
    (λ (h : length xs ≤ count).
    let all : min count (length xs) ≡ length xs = omega (arith, h) in
    let more : length xs + (count - length xs) ≡ count = omega (arith, h) in
    rw (all, take-length) (sym (sym (ap (λ (n : ℕ). take n (xs ++ ys)) more) ∙ take-append-add xs ys (count - length xs))))
    (cases_lt count (length xs))

pub value_front : (cap count : ℕ) (xs ys : List ℕ)
    → min (digits_value_after 10 (min (digits_value 10 (take (min count (length xs)) xs)) cap) (take (count - min count (length xs)) ys)) cap
    ≡ min (digits_value 10 (take count (xs ++ ys))) cap
value_front cap count xs ys =
    let front = take (min count (length xs)) xs in
    let back = take (count - min count (length xs)) ys in
    sym (value-capped cap (digits_value 10 front) back)
    ∙ ap (λ (v : ℕ). min v cap) (sym (value-append 0 front back) ∙ ap (digits_value 10) (take-append count xs ys))

-- digits up to a place, the digit there, and those behind it
pub value_split : (ds : List ℕ) (kept : ℕ) → AllDigits 10 ds → kept < length ds
    → digits_value 10 ds ≡ digits_value 10 (take kept ds) * (10 ^ length (drop (kept + 1) ds) * 10)
    + ((get_or ds kept 0 - 48) * 10 ^ length (drop (kept + 1) ds) + digits_value 10 (drop (kept + 1) ds))
value_split ds kept all h =
    let whole : digits_value 10 ds ≡ digits_value 10 (take kept ds ++ drop kept ds) = ap (digits_value 10) (sym (take-append-drop kept ds)) in
    let cut = value-append 0 (take kept ds) (drop kept ds) in
    let step = drop_more ds kept 0 h in
    let digit : digit_value (get_or ds kept 0) ≡ get_or ds kept 0 - 48 =
    omega (arith, digit_value_digit (get_or ds kept 0) (digit_at ds kept all h), digit_at ds kept all h) in
    let behind : digits_value_after 10 (digits_value 10 (take kept ds)) (drop kept ds)
    ≡ digits_value_after 10 (digits_value 10 (take kept ds) * 10 + digit_value (get_or ds kept 0)) (drop (kept + 1) ds) =
    ap (digits_value_after 10 (digits_value 10 (take kept ds))) step in
    let rest = value_after (digits_value 10 (take kept ds) * 10 + digit_value (get_or ds kept 0)) (drop (kept + 1) ds) in
    whole ∙ (cut ∙ (behind ∙ (rest ∙ rw digit (omega arith))))
