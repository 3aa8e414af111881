-- The words of a text have bytes of words, and its strings are UTF-8.
use Rattle.std.proofs.Common.{◌≡◌, ℕ, true, false, Bool, List, [], ◌∷◌, ◌++◌, refl, zero, suc, Option, Some, None}
use Rattle.std.proofs.lemmas.Bool.{cond_both}
use Rattle.std.specs.Prelude.{◌==◌, ◌||◌, cond}
use Rattle.std.specs.List.{prefix_len}
use Rattle.std.specs.Str.{is_utf8}
use Rattle.dg_ptext.specs.declared.escapes.Body.{Body}
use Rattle.dg_ptext.specs.declared.token.Token.{Token}
use Rattle.dg_ptext.specs.declared.token.Token.TheVariants as token
use Rattle.dg_ptext.specs.declared.token.Piece.{Piece}
use Rattle.dg_ptext.specs.Token.{Placed, placed, tokens, piece, line_behind, is_word_byte, is_blank, in_comment, word, body, string_of, string_by, mark, alone, bad}
use Rattle.dg_ptext.proofs.WordBytes.{IsWord, prefix_of_word}

abbrev pub IsFormed : Token → Type 0
IsFormed (token.Word w) = IsWord w
IsFormed (token.Text t) = is_utf8 t ≡ true
IsFormed _ = Unit {0}

abbrev pub AreFormed : List Placed → Type 0
AreFormed [] = Unit {0}
AreFormed (t ∷ ts) = IsFormed t.token × AreFormed ts

abbrev MayBeFormed : Option Token → Type 0
MayBeFormed None = Unit {0}
MayBeFormed (Some t) = IsFormed t

formed_string : (found : Option Body) → MayBeFormed (string_of found).token
formed_string None = tt
formed_string (Some found) = by_text (is_utf8 found.bytes) refl
  where
    by_text : (t : Bool) → is_utf8 found.bytes ≡ t → MayBeFormed (string_by found.taken (cond t (Some found.bytes) None)).token
    by_text true e = e
    by_text false e = tt

formed_mark : (b : ℕ) → MayBeFormed (mark b).token
formed_mark b =
    let P : Piece → Type 0 = λ p. MayBeFormed p.token in
    let rest_59 : Piece = cond (b == 59) (alone token.Semicolon) bad in
    let rest_44 : Piece = cond (b == 44) (alone token.Comma) rest_59 in
    let rest_58 : Piece = cond (b == 58) (alone token.Colon) rest_44 in
    let rest_125 : Piece = cond (b == 125) (alone token.Close) rest_58 in
    cond_both (b == 123) (alone token.Open) rest_125 P (λ _. tt) (λ _.
    cond_both (b == 125) (alone token.Close) rest_58 P (λ _. tt) (λ _.
    cond_both (b == 58) (alone token.Colon) rest_44 P (λ _. tt) (λ _.
    cond_both (b == 44) (alone token.Comma) rest_59 P (λ _. tt) (λ _.
    cond_both (b == 59) (alone token.Semicolon) bad P (λ _. tt) (λ _. tt)))))

formed_piece : (b : ℕ) (bs : List ℕ) → MayBeFormed (piece b bs).token
unfolding piece
formed_piece b bs =
    let P : Piece → Type 0 = λ p. MayBeFormed p.token in
    let rest_quote : Piece = cond (b == 34 || b == 39) (string_of (body b [] 0 0 bs)) (mark b) in
    let rest_word : Piece = cond (is_word_byte b) (word b bs) rest_quote in
    let rest_comment : Piece = cond (b == 35) (record { token = None; taken = prefix_len in_comment bs }) rest_word in
    cond_both (is_blank b) (record { token = None; taken = 0 }) rest_comment P (λ _. tt) (λ _.
    cond_both (b == 35) (record { token = None; taken = prefix_len in_comment bs }) rest_word P (λ _. tt) (λ _.
    cond_both (is_word_byte b) (word b bs) rest_quote P (λ e. (e, prefix_of_word bs)) (λ _.
    cond_both (b == 34 || b == 39) (string_of (body b [] 0 0 bs)) (mark b) P (λ _. formed_string (body b [] 0 0 bs)) (λ _. formed_mark b))))

formed_placed : (line : ℕ) (t : Option Token) (more : List Placed) → MayBeFormed t → AreFormed more → AreFormed (placed line t more)
formed_placed line None more h m = m
formed_placed line (Some t) more h m = (h, m)

pub tokens_formed : (skipped line : ℕ) (bs : List ℕ) → AreFormed (tokens skipped line bs)
unfolding tokens
tokens_formed skipped line [] = tt
tokens_formed (suc skipped) line (b ∷ bs) = tokens_formed skipped line bs
tokens_formed zero line (b ∷ bs) =
    formed_placed line (piece b bs).token (tokens (piece b bs).taken (line_behind b line) bs) (formed_piece b bs)
    (tokens_formed (piece b bs).taken (line_behind b line) bs)

pub formed_parts : (ts us : List Placed) → AreFormed (ts ++ us) → AreFormed ts × AreFormed us
formed_parts [] us h = (tt, h)
formed_parts (t ∷ ts) us h = let parts = formed_parts ts us h.1 in ((h.0, parts.0), parts.1)
