-- Which bytes are UTF-8.
use Rattle.std.proofs.Common.{◌≡◌, ℕ, ◌<◌, Bool, true, false, Some, None, cond, List, [], ◌∷◌, refl, sym, ap, subst, arith}
use Rattle.std.proofs.lemmas.Str.{IsUtf8-from_is_utf8, is_utf8-from_IsUtf8, IsUtf8-append, IsUtf8-encode, encode_ascii}
use Rattle.std.specs.Str.{IsUtf8, is_utf8}
use lib.Utf8.{low_scalar}
use Rattle.dg_text.specs.Decoded.{text_of}

-- the test on bytes that are UTF-8, and on others
pub utf8 : (bytes : List ℕ) → IsUtf8 bytes → true ≡ is_utf8 bytes
utf8 bytes h = sym (is_utf8-from_IsUtf8 bytes h)

pub not_utf8 : (bytes : List ℕ) → ¬ (IsUtf8 bytes) → false ≡ is_utf8 bytes
not_utf8 bytes not = sym (by (is_utf8 bytes) refl)
  where
    by : (test : Bool) → is_utf8 bytes ≡ test → test ≡ false
    by true is = absurd (not (IsUtf8-from_is_utf8 bytes is))
    by false is = refl

pub is_text : (bytes : List ℕ) → IsUtf8 bytes → Some bytes ≡ text_of bytes
is_text bytes h = ap (λ test. cond test (Some bytes) None) (utf8 bytes h)

pub no_text : (bytes : List ℕ) → ¬ (IsUtf8 bytes) → None ≡ text_of bytes
no_text bytes not = ap (λ test. cond test (Some bytes) None) (not_utf8 bytes not)

-- a byte below 128 before others
pub ascii_then : (b : ℕ) (bytes : List ℕ) → b < 128 → IsUtf8 bytes → IsUtf8 (b ∷ bytes)
ascii_then b bytes low h = IsUtf8-append (b ∷ []) bytes (subst IsUtf8 (encode_ascii b low) (IsUtf8-encode b (low_scalar b (omega arith)))) h
