-- The words of a line. A line is a list of characters here, and a word's text is their UTF-8.
use Rattle.std.specs.Prelude.{ℕ, ◌+◌, ◌-◌, ◌*◌, List, [], ◌∷◌, ◌++◌, Bool, true, false, cond, ◌&&◌, ◌||◌, ◌==◌, nat_le, nat_lt, Option, Some, None, is_some, unwrap_or, encode_utf8}
use Rattle.dg_script.specs.declared.words.Word.{Word}

-- space or tab
abbrev pub is_blank : ℕ → Bool
is_blank c = (c == 32) || (c == 9)

abbrev pub quote : ℕ
quote = 34

abbrev pub backslash : ℕ
backslash = 92

-- what `\"`, `\\`, `\n`, `\r` and `\t` stand for, by the character behind the backslash
abbrev pub named : ℕ → Option ℕ
named c =
    cond (c == 34) (Some 34) (cond (c == 92) (Some 92) (cond (c == 110) (Some 10) (cond (c == 114) (Some 13) (cond (c == 116) (Some 9) None))))

-- three octal digits stand for the character with that number, if it is below 128
abbrev pub is_octal_digit : ℕ → Bool
is_octal_digit c = nat_le 48 c && nat_le c 55

abbrev pub octal : ℕ → ℕ → ℕ → ℕ
octal a b c = (a - 48) * 64 + (b - 48) * 8 + (c - 48)

abbrev pub is_octal : ℕ → ℕ → ℕ → Bool
is_octal a b c = ((is_octal_digit a && is_octal_digit b) && is_octal_digit c) && nat_lt (octal a b c) 128

-- a character before the rest of a word's text
abbrev pub behind : ℕ → Option (List ℕ × List Word) → Option (List ℕ × List Word)
behind c None = None
behind c (Some found) = Some (encode_utf8 c ++ found.0, found.1)

-- a word's text ends before these words
abbrev pub ended : Option (List Word) → Option (List ℕ × List Word)
ended None = None
ended (Some words) = Some ([], words)

-- the word of this text, before the words behind it
abbrev pub in_front : Bool → Option (List ℕ × List Word) → Option (List Word)
in_front quoted None = None
in_front quoted (Some found) = Some (record { text = found.0; quoted = quoted } ∷ found.1)

abbrev mutual
  -- the words of a line; None where a quoted word is of another form
  pub words_in : List ℕ → Option (List Word)
  words_in [] = Some []
  words_in (c ∷ cs) = cond (is_blank c) (words_in cs) (cond (c == quote) (in_front true (quoted_in cs)) (in_front false (behind c (bare_in cs))))

  -- the rest of a bare word, which a blank or the end ends, and the words behind it
  pub bare_in : List ℕ → Option (List ℕ × List Word)
  bare_in [] = Some ([], [])
  bare_in (c ∷ cs) = cond (is_blank c) (ended (words_in cs)) (behind c (bare_in cs))

  -- the rest of a quoted word, which a quote ends, and the words behind it
  pub quoted_in : List ℕ → Option (List ℕ × List Word)
  quoted_in [] = None
  quoted_in (c ∷ cs) = cond (c == quote) (ended (closed_in cs)) (cond (c == backslash) (escaped_in cs) (behind c (quoted_in cs)))

  -- behind the quote that ends a word stands a blank or the end
  pub closed_in : List ℕ → Option (List Word)
  closed_in [] = Some []
  closed_in (c ∷ cs) = cond (is_blank c) (words_in cs) None

  -- the rest of a quoted word behind a backslash
  pub escaped_in : List ℕ → Option (List ℕ × List Word)
  escaped_in [] = None
  escaped_in (c ∷ cs) = cond (is_some (named c)) (behind (unwrap_or (named c) 0) (quoted_in cs)) (octal_in c cs)

  -- the same behind the first of three octal digits
  pub octal_in : ℕ → List ℕ → Option (List ℕ × List Word)
  octal_in a [] = None
  octal_in a (b ∷ []) = None
  octal_in a (b ∷ c ∷ cs) = cond (is_octal a b c) (behind (octal a b c) (quoted_in cs)) None
