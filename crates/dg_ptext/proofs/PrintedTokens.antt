-- The tokens of what is printed.
use Rattle.std.proofs.Common.{◌≡◌, ◌≢◌, ℕ, ◌+◌, ◌*◌, ◌/◌, ◌%◌, ◌<◌, true, false, List, [], ◌∷◌, ◌++◌, length, length-append, drop, refl, sym, ap, ◌∙◌, arith, append_assoc, append-nil, Option, Some, None, IsUtf8}
use Rattle.std.proofs.lemmas.Bool.{eqb-false}
use Rattle.std.proofs.lemmas.List.{take_at, drop_at}
use Rattle.std.proofs.lemmas.Str.{IsUtf8-nil, digit_value_digit}
use Rattle.dg_text.proofs.Utf8Tests.{ascii_then}
use Rattle.std.specs.Prelude.{◌==◌, nat_lt}
use Rattle.std.specs.List.{flat_map, prefix_len}
use Rattle.std.specs.Str.{is_utf8}
use Rattle.std.specs.Char.{digit_value}
use Rattle.dg_ptext.specs.declared.escapes.Body.{Body}
use Rattle.dg_ptext.specs.declared.token.Token.TheVariants as token
use Rattle.dg_ptext.specs.declared.token.Piece.{Piece}
use Rattle.dg_ptext.specs.Token.{placed, tokens, piece, line_behind, is_word_byte, is_blank, word, body, escape, named_escape, numeral, string_of}
use Rattle.dg_text.specs.Quoted.{octal_text, escaped, quoted}
use Rattle.dg_text.proofs.EscapedBytes.{each_way}
use Rattle.dg_ptext.specs.Grammar.{on}
use Rattle.dg_ptext.proofs.WordBytes.{AllOfWord, IsWord}
use Rattle.dg_ptext.proofs.Tokens.{tokens-skipped}
use Rattle.dg_ptext.proofs.Strings.{body-skipped, body-more, body-quote, numeral-more, numeral-full}

pub tokens_blank : (line : ℕ) (xs : List ℕ) → tokens 0 line (32 ∷ xs) ≡ tokens 0 line xs
unfolding tokens piece
tokens_blank line xs = refl

pub tokens_feed : (line : ℕ) (xs : List ℕ) → tokens 0 line (10 ∷ xs) ≡ tokens 0 (line_behind 10 line) xs
unfolding tokens piece
tokens_feed line xs = refl

pub tokens_colon : (line : ℕ) (xs : List ℕ) → tokens 0 line (58 ∷ xs) ≡ on line token.Colon ∷ tokens 0 line xs
unfolding tokens piece is_word_byte
tokens_colon line xs = refl

pub tokens_open : (line : ℕ) (xs : List ℕ) → tokens 0 line (123 ∷ xs) ≡ on line token.Open ∷ tokens 0 line xs
unfolding tokens piece is_word_byte
tokens_open line xs = refl

pub tokens_close : (line : ℕ) (xs : List ℕ) → tokens 0 line (125 ∷ xs) ≡ on line token.Close ∷ tokens 0 line xs
unfolding tokens piece is_word_byte
tokens_close line xs = refl

-- blanks
abbrev pub AreBlanks : List ℕ → Type 0
AreBlanks [] = Unit {0}
AreBlanks (b ∷ bs) = (b ≡ 32) × AreBlanks bs

pub tokens_margin : (line : ℕ) (margin xs : List ℕ) → AreBlanks margin → tokens 0 line (margin ++ xs) ≡ tokens 0 line xs
tokens_margin line [] xs h = refl
tokens_margin line (b ∷ bs) xs h = rw h.0 (tokens_blank line (bs ++ xs) ∙ tokens_margin line bs xs h.1)

pub deeper_margin : (margin : List ℕ) → AreBlanks margin → AreBlanks (margin ++ 32 ∷ 32 ∷ [])
deeper_margin [] h = (refl, (refl, tt))
deeper_margin (b ∷ bs) h = (h.0, deeper_margin bs h.1)

pub utf8_blanks : (margin : List ℕ) → AreBlanks margin → IsUtf8 margin
utf8_blanks [] h = IsUtf8-nil
utf8_blanks (b ∷ bs) h = ascii_then b bs (omega (arith, h.0)) (utf8_blanks bs h.1)

-- words
word_prefix : (bs : List ℕ) (c : ℕ) (xs : List ℕ) → AllOfWord bs → is_word_byte c ≡ false → prefix_len is_word_byte (bs ++ c ∷ xs) ≡ length bs
word_prefix [] c xs h stop = rw stop refl
word_prefix (b ∷ bs) c xs h stop = rw h.0 (omega (arith, word_prefix bs c xs h.1 stop))

word_no_blank : (b : ℕ) → is_word_byte b ≡ true → is_blank b ≡ false
unfolding is_word_byte
word_no_blank b h = grind (arith, h)

word_no_comment : (b : ℕ) → is_word_byte b ≡ true → (b == 35) ≡ false
unfolding is_word_byte
word_no_comment b h = grind (arith, h)

word_no_feed : (b : ℕ) → is_word_byte b ≡ true → (b == 10) ≡ false
unfolding is_word_byte
word_no_feed b h = grind (arith, h)

word_piece : (b : ℕ) (bs : List ℕ) → is_word_byte b ≡ true → piece b bs ≡ word b bs
unfolding piece
word_piece b bs h = rw (word_no_blank b h, word_no_comment b h, h) refl

tokens_step : (line b : ℕ) (bs : List ℕ) (found : Piece) (next : ℕ) → piece b bs ≡ found → line_behind b line ≡ next
    → tokens 0 line (b ∷ bs) ≡ placed line found.token (tokens 0 next (drop found.taken bs))
unfolding tokens
tokens_step line b bs found next e f =
    rw (← e, ← f) (ap (placed line (piece b bs).token) (tokens-skipped (piece b bs).taken (line_behind b line) bs))

pub tokens_word : (line : ℕ) (w : List ℕ) (c : ℕ) (xs : List ℕ) → IsWord w → is_word_byte c ≡ false
    → tokens 0 line (w ++ c ∷ xs) ≡ on line (token.Word w) ∷ tokens 0 line (c ∷ xs)
tokens_word line [] c xs h stop = absurd h
tokens_word line (b ∷ bs) c xs h stop =
    let len = word_prefix bs c xs h.1 stop in
    let same : line_behind b line ≡ line = rw (word_no_feed b h.0) refl in
    tokens_step line b (bs ++ c ∷ xs) (word b (bs ++ c ∷ xs)) line (word_piece b (bs ++ c ∷ xs) h.0) same
    ∙ rw (len, take_at bs (c ∷ xs) (length bs) refl, drop_at bs (c ∷ xs) (length bs) refl) refl

-- ---- a quoted text

later : (before : List ℕ) (more : List ℕ) (m n : ℕ) → m ≡ n → body 34 before m 0 more ≡ body 34 before n 0 more
later before more m n e = ap (λ (k : ℕ). body 34 before k 0 more) e

digit : (x : ℕ) → x < 8 → digit_value (48 + x) ≡ x
digit x h = omega (arith, digit_value_digit (48 + x) (omega (arith, h), omega (arith, h)))

octal_numeral : (x y z : ℕ) (more : List ℕ) → x < 8 → y < 8 → z < 8
    → numeral 8 3 0 0 ((48 + x) ∷ (48 + y) ∷ (48 + z) ∷ more) ≡ record { value = x * 64 + y * 8 + z; taken = 3 }
octal_numeral x y z more hx hy hz =
    let ex = digit x hx in
    let ey = digit y hy in
    let ez = digit z hz in
    let value : ((0 * 8 + digit_value (48 + x)) * 8 + digit_value (48 + y)) * 8 + digit_value (48 + z) ≡ x * 64 + y * 8 + z = rw (ex, ey, ez) (omega arith) in
    numeral-more 8 3 0 0 (48 + x) ((48 + y) ∷ (48 + z) ∷ more) ((48 + x) ∷ (48 + y) ∷ (48 + z) ∷ more) refl (omega arith) (omega (arith, ex, hx))
    ∙ (numeral-more 8 2 (0 * 8 + digit_value (48 + x)) 1 (48 + y) ((48 + z) ∷ more) ((48 + y) ∷ (48 + z) ∷ more) refl (omega arith) (omega (arith, ey, hy))
    ∙ (numeral-more 8 1 ((0 * 8 + digit_value (48 + x)) * 8 + digit_value (48 + y)) 2 (48 + z) more ((48 + z) ∷ more) refl (omega arith) (omega (arith, ez, hz))
    ∙ (numeral-full 8 0 (((0 * 8 + digit_value (48 + x)) * 8 + digit_value (48 + y)) * 8 + digit_value (48 + z)) 3 more refl
    ∙ ap (λ (v : ℕ). record { value = v; taken = 3 }) value)))

no_name : (x : ℕ) → x < 8 → named_escape (48 + x) ≡ None
no_name x h = grind (arith, h)

octal_escape : (x y z : ℕ) (more : List ℕ) → x < 8 → y < 8 → z < 8 → x * 64 + y * 8 + z < 256
    → escape ((48 + x) ∷ (48 + y) ∷ (48 + z) ∷ more) ≡ Some (record { value = x * 64 + y * 8 + z; taken = 3 })
unfolding escape
octal_escape x y z more hx hy hz h =
    let n = octal_numeral x y z more hx hy hz in
    let other : (48 + x == 120) ≡ false = grind (arith, hx) in
    let fits : nat_lt 255 (x * 64 + y * 8 + z) ≡ false = grind (arith, h) in
    rw (no_name x hx, other, n, fits) refl

goes_octal : (b : ℕ) → b < 128 → (before : List ℕ) (taken : ℕ) (more : List ℕ)
    → body 34 before taken 0 (octal_text b ++ more) ≡ body 34 (before ++ b ∷ []) (taken + 4) 0 more
goes_octal b h before taken more =
    let x : b / 64 < 8 = omega (arith, h) in
    let y : b / 8 % 8 < 8 = omega arith in
    let z : b % 8 < 8 = omega arith in
    let value : b / 64 * 64 + b / 8 % 8 * 8 + b % 8 ≡ b = omega (arith, h) in
    let found = octal_escape (b / 64) (b / 8 % 8) (b % 8) more x y z (omega (arith, h, value)) in
    body-more 34 before taken 92 ((48 + b / 64) ∷ (48 + b / 8 % 8) ∷ (48 + b % 8) ∷ more) (octal_text b ++ more)
    (Some (record { value = b / 64 * 64 + b / 8 % 8 * 8 + b % 8; taken = 3 })) refl (λ e. absurd (omega (arith, e))) (λ e. absurd (omega (arith, e))) found
    ∙ (body-skipped 34 (before ++ (b / 64 * 64 + b / 8 % 8 * 8 + b % 8) ∷ []) (taken + 1) 3 ((48 + b / 64) ∷ (48 + b / 8 % 8) ∷ (48 + b % 8) ∷ more)
    ∙ (later (before ++ (b / 64 * 64 + b / 8 % 8 * 8 + b % 8) ∷ []) more (taken + 1 + 3) (taken + 4) (omega arith)
    ∙ ap (λ (v : ℕ). body 34 (before ++ v ∷ []) (taken + 4) 0 more) value))

goes_plain : (b : ℕ) → b ≢ 34 → b ≢ 10 → b ≢ 92 → (before : List ℕ) (taken : ℕ) (more : List ℕ)
    → body 34 before taken 0 (b ∷ more) ≡ body 34 (before ++ b ∷ []) (taken + 1) 0 more
goes_plain b q l s before taken more =
    let other : (b == 92) ≡ false = grind (arith, s) in
    body-more 34 before taken b more (b ∷ more) (Some (record { value = b; taken = 0 })) refl q l (rw other refl)

abbrev GoesAs : ℕ → List ℕ → Type 0
GoesAs b text = (before : List ℕ) (taken : ℕ) (more : List ℕ)
    → body 34 before taken 0 (text ++ more) ≡ body 34 (before ++ b ∷ []) (taken + length text) 0 more

as_34 : GoesAs 34 (92 ∷ 34 ∷ [])
unfolding body escape
as_34 before taken more = later (before ++ 34 ∷ []) more (taken + 1 + 1) (taken + 2) (omega arith)

as_92 : GoesAs 92 (92 ∷ 92 ∷ [])
unfolding body escape
as_92 before taken more = later (before ++ 92 ∷ []) more (taken + 1 + 1) (taken + 2) (omega arith)

as_10 : GoesAs 10 (92 ∷ 110 ∷ [])
unfolding body escape
as_10 before taken more = later (before ++ 10 ∷ []) more (taken + 1 + 1) (taken + 2) (omega arith)

as_13 : GoesAs 13 (92 ∷ 114 ∷ [])
unfolding body escape
as_13 before taken more = later (before ++ 13 ∷ []) more (taken + 1 + 1) (taken + 2) (omega arith)

as_9 : GoesAs 9 (92 ∷ 116 ∷ [])
unfolding body escape
as_9 before taken more = later (before ++ 9 ∷ []) more (taken + 1 + 1) (taken + 2) (omega arith)

pub goes : (b : ℕ) → GoesAs b (escaped b)
goes =
    each_way GoesAs as_34 as_92 as_10 as_13 as_9 goes_octal
    (λ b no_34 no_92 no_10. goes_plain b (eqb-false b 34 no_34) (eqb-false b 10 no_10) (eqb-false b 92 no_92))

body_escaped : (text before : List ℕ) (taken : ℕ) (more : List ℕ)
    → body 34 before taken 0 (flat_map escaped text ++ 34 ∷ more)
    ≡ Some (record { bytes = before ++ text; taken = taken + length (flat_map escaped text) + 1 })
body_escaped [] before taken more =
    body-quote 34 before taken 34 more (34 ∷ more) refl refl
    ∙ rw append-nil (ap (λ (n : ℕ). Some (record { bytes = before; taken = n })) (omega arith))
body_escaped (b ∷ bs) before taken more =
    ap (body 34 before taken 0) (append_assoc (escaped b) (flat_map escaped bs) (34 ∷ more))
    ∙ (goes b before taken (flat_map escaped bs ++ 34 ∷ more)
    ∙ (body_escaped bs (before ++ b ∷ []) (taken + length (escaped b)) more
    ∙ same_body ((before ++ b ∷ []) ++ bs) (before ++ b ∷ bs) (taken + length (escaped b) + length (flat_map escaped bs) + 1)
    (taken + length (escaped b ++ flat_map escaped bs) + 1) (append_assoc before (b ∷ []) bs)
    (omega (arith, length-append (escaped b) (flat_map escaped bs)))))
  where
    same_body : (xs ys : List ℕ) (m n : ℕ) → xs ≡ ys → m ≡ n
        → ◌≡◌ {A = Option Body} (Some (record { bytes = xs; taken = m })) (Some (record { bytes = ys; taken = n }))
    same_body xs ys m n e f = rw (e, f) refl

quote_piece : (xs : List ℕ) → piece 34 xs ≡ string_of (body 34 [] 0 0 xs)
unfolding piece is_word_byte
quote_piece xs = refl

text_piece : (text : List ℕ) (taken : ℕ) → is_utf8 text ≡ true
    → string_of (Some (record { bytes = text; taken = taken })) ≡ record { token = Some (token.Text text); taken = taken }
text_piece text taken h = rw h refl

pub tokens_quoted : (line : ℕ) (text xs : List ℕ) → is_utf8 text ≡ true
    → tokens 0 line (quoted text ++ xs) ≡ on line (token.Text text) ∷ tokens 0 line xs
tokens_quoted line text xs h =
    let inside = flat_map escaped text in
    let whole : (inside ++ 34 ∷ []) ++ xs ≡ inside ++ 34 ∷ xs = append_assoc inside (34 ∷ []) xs in
    let size : ℕ = 0 + length inside + 1 in
    let found : piece 34 (inside ++ 34 ∷ xs) ≡ record { token = Some (token.Text text); taken = 0 + length inside + 1 } =
    quote_piece (inside ++ 34 ∷ xs) ∙ (ap string_of (body_escaped text [] 0 xs) ∙ text_piece text (0 + length inside + 1) h) in
    let rest : drop (0 + length inside + 1) (inside ++ 34 ∷ xs) ≡ xs =
    ap (drop (0 + length inside + 1)) (sym (append_assoc inside (34 ∷ []) xs))
    ∙ drop_at (inside ++ 34 ∷ []) xs (0 + length inside + 1) (omega (arith, length-append inside (34 ∷ []))) in
    ap (λ (ys : List ℕ). tokens 0 line (34 ∷ ys)) whole
    ∙ (tokens_step line 34 (inside ++ 34 ∷ xs) (record { token = Some (token.Text text); taken = 0 + length inside + 1 }) line found refl
    ∙ ap (λ (ys : List ℕ). on line (token.Text text) ∷ tokens 0 line ys) rest)
