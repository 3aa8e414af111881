-- What holds of quoted text: a script reads it as one quoted word, which is the text.
use Rattle.std.specs.Prelude.{◌≡◌, ℕ, List, [], true, Some}
use Rattle.std.specs.Str.{chars}
use Rattle.dg_text.specs.Quoted.{quoted}
use Rattle.dg_script.specs.Words.{in_front, words_in}

-- the line that is the quoted text has one word, which stands in quotes and has this text
abbrev pub ReadsBack : List ℕ → Type 0
ReadsBack text = words_in (chars (quoted text)) ≡ in_front true (Some (text, []))

-- only a text itself is quoted as it is
abbrev pub QuotedApart : List ℕ → List ℕ → Type 0
QuotedApart text other = quoted text ≡ quoted other → text ≡ other
