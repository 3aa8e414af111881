-- The characters of a quoted text are the quoted characters, so it is UTF-8 where the text is.
use Rattle.std.proofs.Common.{◌≡◌, ℕ, zero, suc, ◌<◌, ◌≤◌, Bool, true, ◌&&◌, List, [], ◌∷◌, ◌++◌, length, get_or, inl, inr, IsUtf8, refl, sym, ap, ap₂, subst, ◌∙◌, arith, append-nil}
use Rattle.std.proofs.lemmas.Bool.{and_parts, cases_lt, cases_eq}
use Rattle.std.proofs.lemmas.List.Concat.{flat_map-append}
use Rattle.std.proofs.lemmas.Slice.Eq.{bytes_eq-Decides}
use Rattle.std.proofs.lemmas.Str.{encodes-append, chars-encodes, encode_ascii, inside_one}
use Rattle.std.specs.List.{flat_map}
use Rattle.std.specs.Str.{bytes_eq, chars}
use lib.Utf8.{scalar, scalars, encode, encodes}
use Rattle.dg_text.specs.Quoted.{escaped, quoted}

abbrev is_ascii : ℕ → Bool
is_ascii c = bytes_eq (encodes (escaped c)) (escaped c) && scalars (escaped c)

abbrev ascii_below : ℕ → Bool
ascii_below zero = true
ascii_below (suc n) = is_ascii n && ascii_below n

ascii_in : (n : ℕ) → ascii_below n ≡ true → (c : ℕ) → c < n → is_ascii c ≡ true
ascii_in zero e c h = absurd (omega arith)
ascii_in (suc n) e c h =
    let p = and_parts _ _ e in
    elim (cases_eq c n) [ inl same ↦ rw same p.0 | inr other ↦ ascii_in n p.1 c (omega arith) ]

all_ascii : ascii_below 128 ≡ true
unfolding escaped encode
all_ascii = refl

escaped_high : (c : ℕ) → 128 ≤ c → escaped c ≡ c ∷ []
unfolding escaped
escaped_high c h = grind (arith, h)

all_high : (xs : List ℕ) → ((k : ℕ) → k < length xs → 128 ≤ get_or xs k 0) → flat_map escaped xs ≡ xs
all_high [] h = refl
all_high (x ∷ xs) h =
    let high : 128 ≤ x = h 0 (omega arith) in
    ap₂ (λ (a b : List ℕ). a ++ b) (escaped_high x high) (all_high xs (λ k below. h (suc k) (omega arith)))

encoded_high : (c : ℕ) → 128 ≤ c → flat_map escaped (encode c) ≡ encode c
encoded_high c h = all_high (encode c) (λ k below. elim (cases_lt (get_or (encode c) k 0) 128) [
  | inl low ↦ absurd (omega (arith, inside_one c [] (encode c) k (sym (append-nil _)) below low))
  | inr high ↦ high
])

-- the bytes of a character's text are the texts of its bytes
pub one : (c : ℕ) → encodes (escaped c) ≡ flat_map escaped (encode c)
one c = elim (cases_lt c 128) [
  | inl small ↦
      let p = and_parts _ _ (ascii_in 128 all_ascii c small) in
      (bytes_eq-Decides (encodes (escaped c)) (escaped c)).0 p.0 ∙ sym (append-nil (escaped c)) ∙ sym (ap (flat_map escaped) (encode_ascii c small))
  | inr big ↦ ap encodes (escaped_high c big) ∙ append-nil (encode c) ∙ sym (encoded_high c big)
]

one_scalar : (c : ℕ) → scalar c ≡ true → scalars (escaped c) ≡ true
one_scalar c ok = elim (cases_lt c 128) [
  | inl small ↦ (and_parts _ _ (ascii_in 128 all_ascii c small)).1
  | inr big ↦ ap scalars (escaped_high c big) ∙ ap (λ b. b && true) ok
]

scalars-append : (xs ys : List ℕ) → scalars xs ≡ true → scalars ys ≡ true → scalars (xs ++ ys) ≡ true
scalars-append [] ys e h = h
scalars-append (x ∷ xs) ys e h =
    let p = and_parts _ _ e in
    ap (λ b. b && scalars (xs ++ ys)) p.0 ∙ scalars-append xs ys p.1 h

all : (cs : List ℕ) → encodes (flat_map escaped cs) ≡ flat_map escaped (encodes cs)
all [] = refl
all (c ∷ cs) =
    encodes-append (escaped c) (flat_map escaped cs) ∙ ap₂ (λ (a b : List ℕ). a ++ b) (one c) (all cs)
    ∙ sym (flat_map-append escaped (encode c) (encodes cs))

all_scalars : (cs : List ℕ) → scalars cs ≡ true → scalars (flat_map escaped cs) ≡ true
all_scalars [] e = refl
all_scalars (c ∷ cs) e = let p = and_parts _ _ e in scalars-append (escaped c) (flat_map escaped cs) (one_scalar c p.0) (all_scalars cs p.1)

quoted_encodes : (cs : List ℕ) → encodes (quoted cs) ≡ quoted (encodes cs)
unfolding encode
quoted_encodes cs =
    ap (λ (text : List ℕ). 34 ∷ text) (encodes-append (flat_map escaped cs) (34 ∷ []) ∙ ap (λ (text : List ℕ). text ++ 34 ∷ []) (all cs))

quoted_scalars : (cs : List ℕ) → scalars cs ≡ true → scalars (quoted cs) ≡ true
quoted_scalars cs e = scalars-append (flat_map escaped cs) (34 ∷ []) (all_scalars cs e) refl

pub chars-quoted : (cs : List ℕ) → scalars cs ≡ true → chars (quoted (encodes cs)) ≡ quoted cs
chars-quoted cs e = ap chars (sym (quoted_encodes cs)) ∙ chars-encodes (quoted cs) (quoted_scalars cs e)

pub utf8_quoted : (text : List ℕ) → IsUtf8 text → IsUtf8 (quoted text)
utf8_quoted text utf8 =
    subst (λ (t : List ℕ). IsUtf8 (quoted t)) utf8.1.1 (quoted utf8.0, (quoted_scalars utf8.0 utf8.1.0, quoted_encodes utf8.0))
