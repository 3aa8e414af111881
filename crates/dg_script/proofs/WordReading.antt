-- Reading the words of a line from the left.
use Rattle.std.proofs.Common.{◌≡◌, ◌≢◌, ℕ, ◌<◌, eqb, Bool, true, false, cond, List, [], ◌∷◌, ◌++◌, Option, Some, None, length, encode_utf8, refl, sym, ap, ◌∙◌, append_assoc, append-nil, arith}
use Rattle.std.proofs.lemmas.Str.{length-encode, len_utf8_bounds}
use Rattle.std.proofs.lemmas.Bool.Decides.{nat_tests}
use Rattle.dg_script.specs.declared.words.Word.{Word}
use Rattle.dg_script.specs.Words.{is_blank, backslash, behind, ended, in_front, words_in, bare_in, quoted_in, closed_in, escaped_in}
use Rattle.dg_script.specs.Parts.{text_before, word_before, word_in}

pub encode_utf8_nonempty : (c : ℕ) → 0 < length (encode_utf8 c)
encode_utf8_nonempty c = let bounds = len_utf8_bounds c in omega (arith, length-encode c)

-- three digits are one character, or none
pub octal_read : (is_octal : Bool) (n c : ℕ) (rest : Option (List ℕ × List Word)) →
    Some c ≡ cond is_octal (Some n) None → cond is_octal (behind n rest) None ≡ behind c rest
octal_read true n c rest is = cc
octal_read false n c rest is = cc

-- the text so far, and then the rest of it
abbrev pub joined : List ℕ → Option (List ℕ × List Word) → Option (List ℕ × List Word)
joined text None = None
joined text (Some found) = Some (text ++ found.0, found.1)

pub joined_nil : (found : Option (List ℕ × List Word)) → joined [] found ≡ found
joined_nil None = refl
joined_nil (Some found) = refl

pub joined_first : (c : ℕ) (found : Option (List ℕ × List Word)) → joined ([] ++ encode_utf8 c) found ≡ behind c found
joined_first c None = refl
joined_first c (Some found) = refl

pub joined_push : (text : List ℕ) (c : ℕ) (found : Option (List ℕ × List Word)) →
    joined (text ++ encode_utf8 c) found ≡ joined text (behind c found)
joined_push text c None = refl
joined_push text c (Some found) = ap (λ (t : List ℕ). Some (t, found.1)) (append_assoc text (encode_utf8 c) found.0)

pub joined_ended : (text : List ℕ) (words : Option (List Word)) → joined text (ended words) ≡ text_before text words
joined_ended text None = refl
joined_ended text (Some words) = ap (λ (t : List ℕ). Some (t, words)) (append-nil text)

-- the words so far, and then the rest of them
abbrev pub ahead : List Word → Option (List Word) → Option (List Word)
ahead words None = None
ahead words (Some others) = Some (words ++ others)

pub ahead_nil : (words : Option (List Word)) → ahead [] words ≡ words
ahead_nil None = refl
ahead_nil (Some words) = refl

pub ahead_push : (words : List Word) (word : Word) (others : Option (List Word)) →
    ahead (words ++ word ∷ []) others ≡ ahead words (word_before word others)
ahead_push words word None = refl
ahead_push words word (Some others) = ap Some (append_assoc words (word ∷ []) others)

cond_true : {X : Type 0} (b : Bool) (x y : X) → b ≡ true → cond b x y ≡ x
cond_true b x y is = ap (λ v. cond v x y) is

cond_false : {X : Type 0} (b : Bool) (x y : X) → b ≡ false → cond b x y ≡ y
cond_false b x y is = ap (λ v. cond v x y) is

no_quote : (c : ℕ) → c ≢ 34 → eqb c 34 ≡ false
no_quote c not = grind (arith, nat_tests)

is_quote : (c : ℕ) → c ≡ 34 → eqb c 34 ≡ true
is_quote c is = grind (arith, nat_tests)

-- a blank ends a bare word, and another character goes on with it
pub words_blank : (c : ℕ) (cs : List ℕ) → is_blank c ≡ true → words_in (c ∷ cs) ≡ words_in cs
words_blank c cs is = cond_true _ _ _ is

pub bare_end : (text : List ℕ) (c : ℕ) (cs : List ℕ) → is_blank c ≡ true →
    joined text (bare_in (c ∷ cs)) ≡ text_before text (words_in (c ∷ cs))
bare_end text c cs is =
    ap (joined text) (cond_true (is_blank c) (ended (words_in cs)) (behind c (bare_in cs)) is) ∙ joined_ended text (words_in cs)
    ∙ ap (text_before text) (sym (words_blank c cs is))

pub bare_more : (text : List ℕ) (c : ℕ) (cs : List ℕ) → is_blank c ≡ false →
    joined text (bare_in (c ∷ cs)) ≡ joined (text ++ encode_utf8 c) (bare_in cs)
bare_more text c cs is =
    ap (joined text) (cond_false (is_blank c) (ended (words_in cs)) (behind c (bare_in cs)) is) ∙ sym (joined_push text c (bare_in cs))

-- a quote ends a quoted word where a blank or the end stands behind it
quote_ends : (text : List ℕ) (c : ℕ) (cs : List ℕ) → c ≡ 34 → joined text (quoted_in (c ∷ cs)) ≡ text_before text (closed_in cs)
quote_ends text c cs is =
    ap (joined text) (cond_true (eqb c 34) (ended (closed_in cs)) (cond (eqb c backslash) (escaped_in cs) (behind c (quoted_in cs))) (is_quote c is))
    ∙ joined_ended text (closed_in cs)

pub quoted_end : (text : List ℕ) (c : ℕ) (cs : List ℕ) → c ≡ 34 → closed_in cs ≡ words_in cs →
    joined text (quoted_in (c ∷ cs)) ≡ text_before text (words_in cs)
quoted_end text c cs is closed = quote_ends text c cs is ∙ ap (text_before text) closed

pub quoted_bad : (text : List ℕ) (c : ℕ) (cs : List ℕ) → c ≡ 34 → closed_in cs ≡ None → joined text (quoted_in (c ∷ cs)) ≡ None
quoted_bad text c cs is closed = quote_ends text c cs is ∙ ap (text_before text) closed

in_front_text : (quoted : Bool) (text : List ℕ) (words : Option (List Word)) →
    in_front quoted (text_before text words) ≡ word_before (record { text = text; quoted = quoted }) words
in_front_text quoted text None = refl
in_front_text quoted text (Some words) = refl

pub word_bare : (c : ℕ) (cs text : List ℕ) (words : Option (List Word)) → c ≢ 34 → behind c (bare_in cs) ≡ text_before text words →
    word_in c cs ≡ word_before (record { text = text; quoted = false }) words
word_bare c cs text words not is =
    cond_false (eqb c 34) (in_front true (quoted_in cs)) (in_front false (behind c (bare_in cs))) (no_quote c not)
    ∙ ap (in_front false) is ∙ in_front_text false text words

pub word_quoted : (c : ℕ) (cs text : List ℕ) (words : Option (List Word)) → c ≡ 34 → quoted_in cs ≡ text_before text words →
    word_in c cs ≡ word_before (record { text = text; quoted = true }) words
word_quoted c cs text words is found =
    cond_true (eqb c 34) (in_front true (quoted_in cs)) (in_front false (behind c (bare_in cs))) (is_quote c is)
    ∙ ap (in_front true) found ∙ in_front_text true text words

pub words_more : (words : List Word) (word : Word) (c : ℕ) (cs : List ℕ) (others : Option (List Word)) → is_blank c ≡ false →
    word_in c cs ≡ word_before word others → ahead words (words_in (c ∷ cs)) ≡ ahead (words ++ word ∷ []) others
words_more words word c cs others not is =
    ap (ahead words) (cond_false (is_blank c) (words_in cs) (word_in c cs) not ∙ is) ∙ sym (ahead_push words word others)
