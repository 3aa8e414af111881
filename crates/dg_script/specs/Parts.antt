-- What the reader of a line's words has at a place: a part that it has read, and what is left.
use Rattle.std.specs.Prelude.{◌≡◌, ◌≤◌, ℕ, List, ◌∷◌, Bool, true, false, cond, ◌==◌, Option, Some, None, length}
use Rattle.std.specs.Bool.{MatchBool}
use Rattle.std.specs.Str.{chars}
use Rattle.dg_script.specs.declared.words.Word.{Word}
use Rattle.dg_script.specs.Words.{quote, behind, in_front, words_in, bare_in, quoted_in, closed_in}

-- the words of a line that begins with a character that is no blank
abbrev pub word_in : ℕ → List ℕ → Option (List Word)
word_in c cs = cond (c == quote) (in_front true (quoted_in cs)) (in_front false (behind c (bare_in cs)))

abbrev pub word_before : Word → Option (List Word) → Option (List Word)
word_before word None = None
word_before word (Some words) = Some (word ∷ words)

abbrev pub text_before : List ℕ → Option (List Word) → Option (List ℕ × List Word)
text_before text None = None
text_before text (Some words) = Some (text, words)

-- a word is read, and no more is left than there was
abbrev pub WordIs : Word → List ℕ → List ℕ → Option (List Word) → Type 0
WordIs word rest after read = (read ≡ word_before word (words_in (chars rest))) × (length rest ≤ length after)

-- the rest of a word's text is read
abbrev pub TextIs : List ℕ → List ℕ → List ℕ → Option (List ℕ × List Word) → Type 0
TextIs text rest after read = (read ≡ text_before text (words_in (chars rest))) × (length rest ≤ length after)

-- a character of a quoted text is read
abbrev pub EscapeIs : ℕ → List ℕ → List ℕ → Option (List ℕ × List Word) → Type 0
EscapeIs c rest after read = (read ≡ behind c (quoted_in (chars rest))) × (length rest ≤ length after)

-- whether a blank or the end stands here
abbrev pub EndIs : Bool → List ℕ → Type 0
EndIs is_end rest = MatchBool is_end (closed_in rest ≡ words_in rest) (closed_in rest ≡ None)
