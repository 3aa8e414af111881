-- The bytes of words: they are below 128, so a word is UTF-8.
use Rattle.std.proofs.Common.{◌≡◌, ℕ, ◌+◌, ◌<◌, ◌==◌, Bool, true, false, ◌||◌, List, [], ◌∷◌, take, refl, ap, subst, ⊎_elim, arith, suc, IsUtf8, cond}
use Rattle.std.proofs.lemmas.Bool.{and_parts, or_cases}
use Rattle.std.proofs.lemmas.Str.{IsUtf8-nil}
use Rattle.std.specs.Char.{is_ascii_digit}
use Rattle.std.specs.Int.{is_in_range}
use Rattle.std.specs.List.{list_all, prefix_len}
use Rattle.dg_text.specs.Names.{begins_name, continues_name, is_name}
use Rattle.dg_text.proofs.Utf8Tests.{ascii_then}
use Rattle.dg_ptext.specs.Token.{is_word_byte}

pub word_byte_low : (b : ℕ) → is_word_byte b ≡ true → b < 128
unfolding is_word_byte
word_byte_low b h = grind (arith, h)

abbrev pub AllOfWord : List ℕ → Type 0
AllOfWord [] = Unit {0}
AllOfWord (b ∷ bs) = (is_word_byte b ≡ true) × AllOfWord bs

abbrev pub IsWord : List ℕ → Type 0
IsWord [] = ⊥
IsWord (b ∷ bs) = (is_word_byte b ≡ true) × AllOfWord bs

-- the bytes of a word that a text begins with
pub prefix_of_word : (bs : List ℕ) → AllOfWord (take (prefix_len is_word_byte bs) bs)
prefix_of_word [] = tt
prefix_of_word (b ∷ bs) = by_case (is_word_byte b) refl (prefix_of_word bs)
  where
    by_case : (t : Bool) → is_word_byte b ≡ t → AllOfWord (take (prefix_len is_word_byte bs) bs)
        → AllOfWord (take (cond t (1 + prefix_len is_word_byte bs) 0) (b ∷ bs))
    by_case true e h =
        let P : ℕ → Type 0 = λ n. AllOfWord (take n (b ∷ bs)) in
        let more : suc (prefix_len is_word_byte bs) ≡ 1 + prefix_len is_word_byte bs = omega arith in
        subst P more (e, h)
    by_case false e h = tt

pub utf8_of_word : (w : List ℕ) → AllOfWord w → IsUtf8 w
utf8_of_word [] h = IsUtf8-nil
utf8_of_word (b ∷ bs) h = ascii_then b bs (word_byte_low b h.0) (utf8_of_word bs h.1)

pub utf8_word : (w : List ℕ) → IsWord w → IsUtf8 w
utf8_word [] h = absurd h
utf8_word (b ∷ bs) h = ascii_then b bs (word_byte_low b h.0) (utf8_of_word bs h.1)

-- ---- names and digits are words

letter_or_digit : (digit upper lower under p q r : Bool) → (upper || lower || under) ≡ true
    → (digit || upper || lower || under || p || q || r) ≡ true
letter_or_digit true upper lower under p q r h = refl
letter_or_digit false true lower under p q r h = refl
letter_or_digit false false true under p q r h = refl
letter_or_digit false false false true p q r h = refl
letter_or_digit false false false false p q r h = let e : ⊥ = cc in absurd e

begin_in_word : (b : ℕ) → begins_name b ≡ true → is_word_byte b ≡ true
unfolding is_word_byte
begin_in_word b h =
    letter_or_digit (is_in_range 48 57 b) (is_in_range 65 90 b) (is_in_range 97 122 b) (b == 95) (b == 46) (b == 43) (b == 45) h

digit_in_word : (b : ℕ) → is_ascii_digit b ≡ true → is_word_byte b ≡ true
unfolding is_word_byte
digit_in_word b h =
    ap (λ digit. digit || is_in_range 65 90 b || is_in_range 97 122 b || b == 95 || b == 46 || b == 43 || b == 45) h

pub word_digits : (ds : List ℕ) → list_all is_ascii_digit ds ≡ true → AllOfWord ds
word_digits [] h = tt
word_digits (d ∷ ds) h =
    let parts = and_parts (is_ascii_digit d) (list_all is_ascii_digit ds) h in
    (digit_in_word d parts.0, word_digits ds parts.1)

name_bytes : (bs : List ℕ) → list_all continues_name bs ≡ true → AllOfWord bs
name_bytes [] h = tt
name_bytes (b ∷ bs) h =
    let parts = and_parts (continues_name b) (list_all continues_name bs) h in
    (⊎_elim (begin_in_word b) (digit_in_word b) (or_cases (begins_name b) (is_ascii_digit b) parts.0), name_bytes bs parts.1)

pub word_name : (name : List ℕ) → is_name name ≡ true → IsWord name
word_name [] h = let e : ⊥ = cc in absurd e
word_name (b ∷ bs) h =
    let parts = and_parts (begins_name b) (list_all continues_name bs) h in
    (begin_in_word b parts.0, name_bytes bs parts.1)
