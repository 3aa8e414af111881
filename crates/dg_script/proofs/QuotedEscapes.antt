-- What the grammar of words reads of a character as it is written between quotes.
use Rattle.std.proofs.Common.{◌≡◌, ℕ, zero, suc, ◌+◌, ◌/◌, ◌%◌, ◌<◌, Bool, true, false, not, ◌&&◌, List, [], ◌∷◌, ◌++◌, None, is_some, unwrap_or, inl, inr, refl, sym, ap, ◌∙◌, arith}
use Rattle.std.proofs.lemmas.Bool.{eqb-true, and_parts, cases_eq}
use Rattle.std.specs.Prelude.{◌==◌, cond}
use Rattle.dg_script.specs.Words.{named, octal, is_octal, behind, quoted_in, octal_in}
use Rattle.dg_text.specs.Quoted.{octal_text, escaped}
use Rattle.dg_text.proofs.EscapedBytes.{each_way}

abbrev Reads : ℕ → List ℕ → Type 0
Reads c text = (rest : List ℕ) → quoted_in (text ++ rest) ≡ behind c (quoted_in rest)

as_34 : Reads 34 (92 ∷ 34 ∷ [])
as_34 rest = refl

as_92 : Reads 92 (92 ∷ 92 ∷ [])
as_92 rest = refl

as_10 : Reads 10 (92 ∷ 110 ∷ [])
as_10 rest = refl

as_13 : Reads 13 (92 ∷ 114 ∷ [])
as_13 rest = refl

as_9 : Reads 9 (92 ∷ 116 ∷ [])
as_9 rest = refl

abbrev is_digits_of : ℕ → ℕ → ℕ → ℕ → Bool
is_digits_of c x y z = (not (is_some (named x)) && is_octal x y z) && (octal x y z == c)

abbrev digits_below : ℕ → Bool
digits_below zero = true
digits_below (suc n) = is_digits_of n (48 + n / 64) (48 + n / 8 % 8) (48 + n % 8) && digits_below n

digits_in : (n : ℕ) → digits_below n ≡ true → (c : ℕ) → c < n → is_digits_of c (48 + c / 64) (48 + c / 8 % 8) (48 + c % 8) ≡ true
digits_in zero e c h = absurd (omega arith)
digits_in (suc n) e c h =
    let p = and_parts _ _ e in
    elim (cases_eq c n) [ inl same ↦ rw same p.0 | inr other ↦ digits_in n p.1 c (omega arith) ]

all_digits : digits_below 128 ≡ true
all_digits = refl

not_true : (b : Bool) → not b ≡ true → b ≡ false
not_true true e = sym e
not_true false e = refl

octal_digits : (c x y z : ℕ) → is_digits_of c x y z ≡ true → Reads c (92 ∷ x ∷ y ∷ z ∷ [])
octal_digits c x y z e rest =
    let p = and_parts _ _ e in
    let q = and_parts _ _ p.0 in
    ap (λ b. cond b (behind (unwrap_or (named x) 0) (quoted_in (y ∷ z ∷ rest))) (octal_in x (y ∷ z ∷ rest))) (not_true _ q.0)
    ∙ ap (λ b. cond b (behind (octal x y z) (quoted_in rest)) None) q.1 ∙ ap (λ n. behind n (quoted_in rest)) (eqb-true (octal x y z) c p.1)

as_itself : (c : ℕ) → (c == 34) ≡ false → (c == 92) ≡ false → Reads c (c ∷ [])
as_itself c no_34 no_92 rest = rw (no_34, no_92) refl

as_octal : (c : ℕ) → c < 128 → Reads c (octal_text c)
as_octal c low = octal_digits c (48 + c / 64) (48 + c / 8 % 8) (48 + c % 8) (digits_in 128 all_digits c low)

pub reads : (c : ℕ) (rest : List ℕ) → quoted_in (escaped c ++ rest) ≡ behind c (quoted_in rest)
reads = each_way Reads as_34 as_92 as_10 as_13 as_9 as_octal (λ c no_34 no_92 _. as_itself c no_34 no_92)
