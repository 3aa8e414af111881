-- Words with a short one before the first `--` are of no form.
use Rattle.std.proofs.Common.{◌≡◌, ◌==◌, ℕ, true, false, refl, List, [], ◌∷◌, Option, Some, None}
use Rattle.std.specs.Prelude.{option_and_then}
use Rattle.dg_words.specs.Grammar.{Form, Named, begins_with_minus, flag_in, has_name, has_short, is_end, is_short, long_in, name_in, option_in, place_in, value_in, waiting_in, with_text, words_in}
use Rattle.dg_words.proofs.Using.{either}

none_behind : (f : Named → Option Named) → ((named : Named) → f named ≡ None) → (o : Option Named) → option_and_then f o ≡ None
none_behind f none None = refl
none_behind f none (Some named) = none named

-- neither reading has an answer
abbrev IsRefused : Form → List (List ℕ) → Type 0
IsRefused form words =
    ((places : List (List ℕ)) (named : Named) → words_in form words places named ≡ None)
    × ((name : List ℕ) (places : List (List ℕ)) (named : Named) → waiting_in form words name places named ≡ None)

option_refused : (name : List ℕ) (value : Option (List ℕ)) (others : Named → Option Named) (waiting : Option Named) (named : Named) →
    ((n : Named) → others n ≡ None) → waiting ≡ None → option_in name value others waiting named ≡ None
option_refused name None others waiting named none no_wait = no_wait
option_refused name (Some v) others waiting named none no_wait = none_behind others none (with_text name v named)

flag_refused : (name : List ℕ) (value : Option (List ℕ)) (others : Named → Option Named) (named : Named) → ((n : Named) → others n ≡ None) →
    flag_in name value others named ≡ None
flag_refused name None others named none = none_behind others none _
flag_refused name (Some v) others named none = refl

long_refused : (form : Form) (name : List ℕ) (value : Option (List ℕ)) (others : Named → Option Named) (waiting : Option Named) (named : Named) →
    ((n : Named) → others n ≡ None) → waiting ≡ None → long_in form name value others waiting named ≡ None
long_refused form name value others waiting named none no_wait =
    either (has_name name form.options)
    (λ here. rw here (option_refused name value others waiting named none no_wait))
    (λ not_option. either (has_name name form.flags)
    (λ here. rw (not_option, here) (flag_refused name value others named none))
    (λ not_flag. rw (not_option, not_flag) refl))

place_refused : (word : List ℕ) (places : List (List ℕ)) (others : List (List ℕ) → Named → Option Named) (named : Named) →
    ((ps : List (List ℕ)) (n : Named) → others ps n ≡ None) → place_in word places others named ≡ None
place_refused word [] others named none = refl
place_refused word (place ∷ places) others named none = none_behind (others places) (none places) (with_text place word named)

short_minus : (word : List ℕ) → is_short word ≡ true → begins_with_minus word ≡ true
short_minus [] short = cc
short_minus (b ∷ bs) short = either (b == 45) (λ minus. minus) (λ other. let no : false ≡ true = rw other at short in cc)

word_refused : (form : Form) (word : List ℕ) (words : List (List ℕ)) → is_end word ≡ false → (is_short word ≡ false → IsRefused form words) → IsRefused form (word ∷ words)
word_refused form word words not_end rest = (
  (λ places named. either (is_short word)
      (λ short. rw (not_end, short) refl)
      (λ other. either (begins_with_minus word)
      (λ minus. rw (not_end, other, minus) (long_refused form (name_in word) (value_in word) (words_in form words places) (waiting_in form words (name_in word) places named) named
      ((rest other).0 places) ((rest other).1 (name_in word) places named)))
      (λ plain. rw (not_end, other, plain) (place_refused word places (words_in form words) named (rest other).0)))),
  (λ name places named. either (begins_with_minus word)
      (λ minus. rw minus refl)
      (λ plain. rw plain (none_behind (words_in form words places) ((rest (plain_two word plain)).0 places) (with_text name word named)))),
)
  where
    plain_two : (w : List ℕ) → begins_with_minus w ≡ false → is_short w ≡ false
    plain_two [] plain = refl
    plain_two (b ∷ bs) plain = rw plain refl

pub short_refused : (form : Form) (words : List (List ℕ)) → has_short words ≡ true → IsRefused form words
short_refused form [] short = cc
short_refused form (word ∷ words) short =
    either (is_end word)
    (λ end. let no : false ≡ true = rw end at short in cc)
    (λ not_end. word_refused form word words not_end (λ other. short_refused form words (rw (not_end, other) at short)))
