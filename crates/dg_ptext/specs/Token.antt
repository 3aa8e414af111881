-- Which bytes are which tokens.
use Rattle.std.specs.Prelude.{ℕ, ◌+◌, ◌*◌, ◌-◌, ◌^◌, min, zero, suc, Bool, ◌&&◌, ◌||◌, not, List, [], ◌∷◌, ◌++◌, ◌==◌, nat_lt, if◌then◌else◌, Option, Some, None, option_and_then}
use Rattle.std.specs.Char.{is_ascii_alphanumeric, digit_value}
use Rattle.std.specs.List.{prefix_len, take_while}
use Rattle.dg_text.specs.Decoded.{text_of}
use Rattle.dg_ptext.specs.declared.escapes.Escape.{Escape}
use Rattle.dg_ptext.specs.declared.escapes.Body.{Body}
use Rattle.dg_ptext.specs.declared.escapes.Numeral.{Numeral}
use Rattle.dg_ptext.specs.declared.token.Token.{Token}
use Rattle.dg_ptext.specs.declared.token.Token.TheVariants as token
use Rattle.dg_ptext.specs.declared.token.Piece.{Piece}

-- ---- bytes

abbrev pub is_blank : ℕ → Bool
is_blank b = b == 32 || b == 9 || b == 13 || b == 10

unfoldable pub is_word_byte : ℕ → Bool
is_word_byte b = is_ascii_alphanumeric b || b == 95 || b == 46 || b == 43 || b == 45

-- ---- strings

-- the digits that a text begins with, at most so many of them, behind a value of so many digits
unfoldable pub numeral : ℕ → ℕ → ℕ → ℕ → List ℕ → Numeral
numeral base places value taken [] = record { value = value; taken = taken }
numeral base places value taken (b ∷ bs) =
    if (nat_lt 0 places && nat_lt (digit_value b) base)
    then numeral base (places - 1) (value * base + digit_value b) (taken + 1) bs
    else record { value = value; taken = taken }

-- the escapes of one letter or mark
abbrev pub named_escape : ℕ → Option ℕ
named_escape b =
    if b == 97 then Some 7 else
    (if b == 98 then Some 8 else
    (if b == 102 then Some 12 else
    (if b == 110 then Some 10 else
    (if b == 114 then Some 13 else
    (if b == 116 then Some 9 else
    (if b == 118 then Some 11 else
    (if (b == 63 || b == 92 || b == 34 || b == 39) then Some b else None)))))))

-- a numeral of at least one digit whose value is a byte, and how many bytes are written before it
abbrev pub byte_of : ℕ → Numeral → Option Escape
byte_of before n = if (n.taken == 0 || nat_lt 255 n.value) then None else Some (record { value = n.value; taken = before + n.taken })

-- an `x` and at most two hexadecimal digits, or at most three octal ones
abbrev pub numeric_escape : ℕ → List ℕ → Option Escape
numeric_escape b bs = if b == 120 then byte_of 1 (numeral 16 2 0 0 bs) else byte_of 0 (numeral 8 3 0 0 (b ∷ bs))

abbrev pub escape_by : Option ℕ → ℕ → List ℕ → Option Escape
escape_by (Some value) b bs = Some (record { value = value; taken = 1 })
escape_by None b bs = numeric_escape b bs

-- the byte that stands behind a backslash, and how many bytes it is written with
unfoldable pub escape : List ℕ → Option Escape
escape [] = None
escape (b ∷ bs) = escape_by (named_escape b) b bs

-- a byte of a string's text: an escape, or a byte that stands for itself
abbrev pub unit : ℕ → List ℕ → Option Escape
unit b bs = if b == 92 then escape bs else Some (record { value = b; taken = 0 })

-- what stands up to the quote that ends a string, behind these bytes, of which so many were taken; so many more are skipped first
unfoldable pub body : ℕ → List ℕ → ℕ → ℕ → List ℕ → Option Body
body quote before taken skipped [] = None
body quote before taken (suc skipped) (b ∷ bs) = body quote before (taken + 1) skipped bs
body quote before taken zero (b ∷ bs) =
    if b == quote then Some (record { bytes = before; taken = taken + 1 }) else
    (if b == 10 then None else option_and_then (λ e. body quote (before ++ e.value ∷ []) (taken + 1) e.taken bs) (unit b bs))

-- ---- tokens

abbrev pub bad : Piece
bad = record { token = Some token.Bad; taken = 0 }

abbrev pub string_by : ℕ → Option (List ℕ) → Piece
string_by taken None = bad
string_by taken (Some text) = record { token = Some (token.Text text); taken = taken }

-- a string, where the bytes between its quotes are UTF-8
abbrev pub string_of : Option Body → Piece
string_of None = bad
string_of (Some found) = string_by found.taken (text_of found.bytes)

abbrev pub alone : Token → Piece
alone t = record { token = Some t; taken = 0 }

abbrev pub mark : ℕ → Piece
mark b =
    if b == 123 then alone token.Open else
    (if b == 125 then alone token.Close else
    (if b == 58 then alone token.Colon else
    (if b == 44 then alone token.Comma else
    (if b == 59 then alone token.Semicolon else bad))))

-- a comment goes to the end of its line
abbrev pub in_comment : ℕ → Bool
in_comment b = not (b == 10)

-- the word that begins with a byte
abbrev pub word : ℕ → List ℕ → Piece
word b bs = record { token = Some (token.Word (b ∷ take_while is_word_byte bs)); taken = prefix_len is_word_byte bs }

-- what begins with a byte, and how many of the bytes behind it are its own
unfoldable pub piece : ℕ → List ℕ → Piece
piece b bs =
    if is_blank b then record { token = None; taken = 0 } else
    (if b == 35 then record { token = None; taken = prefix_len in_comment bs } else
    (if is_word_byte b then word b bs else
    (if (b == 34 || b == 39) then string_of (body b [] 0 0 bs) else mark b)))

-- ---- the tokens of a text, each with its line

-- the line behind a byte; the greatest that is counted is 4,294,967,295
abbrev pub line_behind : ℕ → ℕ → ℕ
line_behind b line = if b == 10 then min (line + 1) (2 ^ 32 - 1) else line

pub record Placed : Type 0 where
  pub line : ℕ
  pub token : Token

abbrev pub placed : ℕ → Option Token → List Placed → List Placed
placed line None more = more
placed line (Some t) more = record { line = line; token = t } ∷ more

-- the tokens behind so many bytes that are skipped. What stands behind a bad one is never looked at.
unfoldable pub tokens : ℕ → ℕ → List ℕ → List Placed
tokens skipped line [] = []
tokens (suc skipped) line (b ∷ bs) = tokens skipped line bs
tokens zero line (b ∷ bs) = placed line (piece b bs).token (tokens (piece b bs).taken (line_behind b line) bs)
