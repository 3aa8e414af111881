-- A line that is a quoted text has that text as its one word.
use Rattle.std.proofs.Common.{◌≡◌, ℕ, List, [], ◌∷◌, ◌++◌, Option, Some, None, IsUtf8, true, refl, sym, ap, subst, ◌∙◌, append_assoc}
use Rattle.std.specs.List.{flat_map}
use Rattle.std.specs.Str.{chars}
use lib.Utf8.{encodes}
use Rattle.dg_script.specs.Words.{behind, in_front, words_in, quoted_in}
use Rattle.dg_text.specs.Quoted.{escaped, quoted}
use Rattle.dg_script.specs.Laws.{ReadsBack, QuotedApart}
use Rattle.dg_script.proofs.QuotedEscapes.{reads}
use Rattle.dg_text.proofs.QuotedCharacters.{chars-quoted}

rest_read : (cs : List ℕ) → quoted_in (flat_map escaped cs ++ 34 ∷ []) ≡ Some (encodes cs, [])
rest_read [] = refl
rest_read (c ∷ cs) =
    ap quoted_in (append_assoc (escaped c) (flat_map escaped cs) (34 ∷ [])) ∙ reads c (flat_map escaped cs ++ 34 ∷ []) ∙ ap (behind c) (rest_read cs)

-- what stands behind a line's first character
abbrev behind_first : List ℕ → List ℕ
behind_first [] = []
behind_first (c ∷ cs) = cs

abbrev body_of : List ℕ → List ℕ
body_of text = behind_first (chars (quoted text))

body_read : (text : List ℕ) → IsUtf8 text → quoted_in (body_of text) ≡ Some (text, [])
body_read text utf8 =
    let P : List ℕ → Type 0 = λ t. quoted_in (body_of t) ≡ Some (t, []) in
    subst P utf8.1.1 (ap (λ line. quoted_in (behind_first line)) (chars-quoted utf8.0 utf8.1.0) ∙ rest_read utf8.0)

pub reads_back : (text : List ℕ) → IsUtf8 text → ReadsBack text
reads_back text utf8 =
    let P : List ℕ → Type 0 = λ t. ReadsBack t in
    subst P utf8.1.1 (ap words_in (chars-quoted utf8.0 utf8.1.0) ∙ ap (in_front true) (rest_read utf8.0))

abbrev text_in : {W : Type 0} → Option (List ℕ × List W) → List ℕ
text_in None = []
text_in (Some found) = found.0

pub quoted_apart : (text other : List ℕ) → IsUtf8 text → IsUtf8 other → QuotedApart text other
quoted_apart text other utf8 utf8_other same =
    ap text_in (sym (body_read text utf8) ∙ ap (λ line. quoted_in (behind_first (chars line))) same ∙ body_read other utf8_other)
