-- Numbers of at most twenty digits.
use Rattle.std.proofs.Common.{◌≡◌, ℕ, suc, ◌+◌, ◌*◌, ◌-◌, ◌^◌, ◌<◌, ◌≤◌, Bool, true, false, ◌&&◌, List, length, get_or, leb, arith, refl, sym, ap, ◌∙◌, true≢false, pow-suc}
use Rattle.std.proofs.lemmas.Bool.Decides.{nat_tests}
use Rattle.std.proofs.lemmas.List.Folds.{list_all_at}
use Rattle.std.proofs.Math.Nat.{pow-le-pow_right}
use Rattle.std.specs.List.{list_all}
use Rattle.std.specs.Char.{is_ascii_digit}
use Rattle.dg_script.specs.Forms.{is_number}

both_of : (a b : Bool) → a && b ≡ true → (a ≡ true) × (b ≡ true)
both_of true b e = (refl, e)
both_of false b e = absurd (true≢false (sym e))

passes_or : {X : Type 0} (p : X → Bool) (xs : List X) (i : ℕ) (d : X) (b : Bool) → p (get_or xs i d) ≡ b →
    i < length xs → list_all p xs ≡ true → b ≡ true
passes_or p xs i d true is lt all = refl
passes_or p xs i d false is lt all = absurd (true≢false (sym all ∙ list_all_at p xs i d lt is))

pub digit_step : (n i : ℕ) (text : List ℕ) → is_number text ≡ true → i < length text → n < 10 ^ i →
    (48 ≤ get_or text i 0) × (n * 10 + (get_or text i 0 - 48) < 10 ^ (i + 1)) × (10 ^ (i + 1) ≤ 100000000000000000000)
digit_step n i text number lt below =
    let parts = both_of (leb 1 (length text) && leb (length text) 20) (list_all is_ascii_digit text) number in
    let lengths = both_of (leb 1 (length text)) (leb (length text) 20) parts.0 in
    let digit = both_of (leb 48 (get_or text i 0)) (leb (get_or text i 0) 57) (passes_or is_ascii_digit text i 0 (is_ascii_digit (get_or text i 0)) refl lt parts.1) in
    let short : length text ≤ 20 = grind (arith, nat_tests, lengths.1) in
    let low : 48 ≤ get_or text i 0 = grind (arith, nat_tests, digit.0) in
    let high : get_or text i 0 ≤ 57 = grind (arith, nat_tests, digit.1) in
    let next : i + 1 ≡ suc i = omega arith in
    let step : 10 ^ (i + 1) ≡ 10 ^ i * 10 = ap (λ m. 10 ^ m) next ∙ pow-suc 10 i in
    let ten : 0 < 10 = omega arith in
    let le : i + 1 ≤ 20 = omega arith in
    let most : 10 ^ (i + 1) ≤ 10 ^ 20 = pow-le-pow_right ten le in
    (low, omega (arith, step, high, below), omega (arith, most))
