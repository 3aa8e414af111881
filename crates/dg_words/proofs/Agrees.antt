-- A parse of a task's command agrees with the grammar, word by word.
use Rattle.std.proofs.Common.{◌≡◌, ◌∙◌, ◌+◌, ◌==◌, ℕ, true, false, refl, ap, List, [], ◌∷◌, min, Option, Some, None, codes}
use Rattle.std.specs.Prelude.{option_map, option_and_then, bytes_eq}
use Rattle.clap.specs.Lexer.{usize_max, long_of, short_of}
use Rattle.clap.specs.Walk.{Held, Row, Rule, Text, Waiting, idle, option, arg_by_id, arg_by_index, arg_by_long}
use Rattle.dg_words.specs.Grammar.{Form, Named, begins_with_minus, has_name, has_short, is_end, is_short, name_in, value_in, places_in, waiting_in, with_text, words_in, flag_in, long_in, option_in, place_in}
use Rattle.dg_words.proofs.Walking.{after_use, at_word, behind_end, dashes, due, flag_as, option_as, pending_at, place_as, rows_at, run, run_end_idle, run_end_option, run_flag, run_flag_value, run_none, run_option, run_place, run_place_behind, run_stray, run_stray_behind, run_unknown, run_value, run_waits}
use Rattle.dg_words.proofs.Using.{GivesText, due_empty, due_option, due_place, either, flag_gives, option_gives, rows_for}

-- ---- what a word looks like

plain_long : (word : Text) → begins_with_minus word ≡ false → long_of word ≡ None
plain_long [] plain = refl
plain_long (b ∷ bs) plain = rw plain refl

plain_short : (word : Text) → begins_with_minus word ≡ false → short_of word ≡ None
plain_short [] plain = refl
plain_short (b ∷ bs) plain = rw plain refl

long_long : (word : Text) → begins_with_minus word ≡ true → is_short word ≡ false → is_end word ≡ false → long_of word ≡ Some (name_in word, value_in word)
long_long [] minus two other = cc
long_long (b ∷ []) minus two other = let no : true ≡ false = rw minus at two in cc
long_long (b ∷ d ∷ []) minus two other =
    either (d == 45)
    (λ second. let no : true ≡ false = rw (minus, second) at other in cc)
    (λ second. let no : true ≡ false = rw (minus, second) at two in cc)
long_long (b ∷ d ∷ e ∷ es) minus two other =
    either (d == 45)
    (λ second. rw (minus, second) refl)
    (λ second. let no : true ≡ false = rw (minus, second) at two in cc)

-- ---- what the command has

-- each option and flag is found by its name, and no other is
pub record HasForm (c : List Rule) (form : Form) : Type 0 where
  pub option_named : (name : Text) → has_name name form.options ≡ true → (arg_by_long c name ≡ Some (option_as name)) × (arg_by_id c name ≡ Some (option_as name))
  pub flag_named : (name : Text) → has_name name form.options ≡ false → has_name name form.flags ≡ true → arg_by_long c name ≡ Some (flag_as name)
  pub unknown : (name : Text) → has_name name form.options ≡ false → has_name name form.flags ≡ false → arg_by_long c name ≡ None

-- from this position on there are these places
abbrev pub HasPlaces : List Rule → ℕ → List Text → Type 0
HasPlaces c position [] = arg_by_index c position ≡ None
HasPlaces c position (place ∷ places) =
    (arg_by_index c position ≡ Some (place_as place position)) × (arg_by_id c place ≡ Some (place_as place position))
    × HasPlaces c (min (position + 1) usize_max) places

-- ---- behind a `--`

-- what is due at a place is what the grammar has there
abbrev IsDue : List Rule → Held → Option Named → Type 0
IsDue c h given = due c h ≡ option_map rows_for given

agrees_behind : (name : Text) (c : List Rule) (words : List Text) (waiting : Waiting) (h : Held) (position : ℕ) (places : List Text) (given : Option Named) →
    HasPlaces c position places → IsDue c h given →
    run name c (behind_end waiting h position) words ≡ option_map rows_for (option_and_then (places_in words places) given)
agrees_behind name c [] waiting h position places None has is_due = run_none name c (behind_end waiting h position) ∙ is_due
agrees_behind name c [] waiting h position places (Some named) has is_due = run_none name c (behind_end waiting h position) ∙ is_due
agrees_behind name c (word ∷ words) waiting h position [] None has is_due = run_stray_behind name c waiting h position word words has
agrees_behind name c (word ∷ words) waiting h position [] (Some named) has is_due = run_stray_behind name c waiting h position word words has
agrees_behind name c (word ∷ words) waiting h position (place ∷ places) None has is_due =
    run_place_behind name c waiting h position place word words has.0 ∙ rw is_due refl
agrees_behind name c (word ∷ words) waiting h position (place ∷ places) (Some named) has is_due =
    run_place_behind name c waiting h position place word words has.0 ∙ rw is_due
    (agrees_behind name c words idle (pending_at place (word ∷ []) h.skip (rows_for named)) (min (position + 1) usize_max) places (with_text place word named) has.2
    (due_place c place word position h.skip named has.1))

-- ---- before a `--`

-- the two at the words: where no option waits for its value, and where this one does
abbrev Agrees : Text → List Rule → Form → List Text → Type 0
Agrees name c form words =
    ((h : Held) (position : ℕ) (places : List Text) (given : Option Named) → HasPlaces c position places → IsDue c h given →
    run name c (at_word idle h position) words ≡ option_map rows_for (option_and_then (words_in form words places) given))
    × ((n : Text) (skip position : ℕ) (places : List Text) (named : Named) → HasPlaces c position places → has_name n form.options ≡ true →
    run name c (at_word (option n) (pending_at n [] skip (rows_for named)) position) words ≡ option_map rows_for (waiting_in form words n places named))

-- what comes behind an option or a flag, where no option waits
after_agrees : (name : Text) (c : List Rule) (form : Form) (a : Rule) (values : List Text) (n text : Text) (words : List Text) (skip position : ℕ) (places : List Text) (named : Named) →
    GivesText a values n text → Agrees name c form words → HasPlaces c position places →
    after_use name c a values skip position words (rows_for named) ≡ option_map rows_for (option_and_then (words_in form words places) (with_text n text named))
after_agrees name c form a values n text words skip position places named gives rest has =
    ap (λ (o : Option (List Row)). option_and_then (λ after. run name c (at_word idle (rows_at skip after) position) words) o) (gives named)
    ∙ go (with_text n text named)
  where
    go : (given : Option Named) → option_and_then (λ after. run name c (at_word idle (rows_at skip after) position) words) (option_map rows_for given)
        ≡ option_map rows_for (option_and_then (words_in form words places) given)
    go None = refl
    go (Some after) = rest.0 (rows_at skip (rows_for after)) position places (Some after) has refl

-- a word that begins with two minuses, where the rows that are due are these
long_agrees : (name : Text) (c : List Rule) (form : Form) → HasForm c form → (waiting : Waiting) (h : Held) (position : ℕ) (word n : Text) (value : Option Text)
    (words places : List Text) (named : Named) → bytes_eq word dashes ≡ false → long_of word ≡ Some (n, value) → due c h ≡ Some (rows_for named) →
    Agrees name c form words → HasPlaces c position places →
    run name c (at_word waiting h position) (word ∷ words) ≡
    option_map rows_for (long_in form n value (words_in form words places) (waiting_in form words n places named) named)
long_agrees name c form has_form waiting h position word n value words places named not_end long is_due rest has =
    either (has_name n form.options)
    (λ is_option. rw is_option (as_option value long is_option))
    (λ no_option. either (has_name n form.flags)
    (λ is_flag. rw (no_option, is_flag) (as_flag value long no_option is_flag))
    (λ no_flag. rw (no_option, no_flag) (run_unknown name c waiting h position word n value words not_end long (has_form.unknown n no_option no_flag))))
  where
    as_option : (v : Option Text) → long_of word ≡ Some (n, v) → has_name n form.options ≡ true →
        run name c (at_word waiting h position) (word ∷ words) ≡
        option_map rows_for (option_in n v (words_in form words places) (waiting_in form words n places named) named)
    as_option None is_long is_option =
        run_waits name c waiting h position word n words not_end is_long (has_form.option_named n is_option).0 ∙ rw is_due
        (rest.1 n h.skip position places named has is_option)
    as_option (Some v) is_long is_option =
        run_option name c waiting h position word n v words not_end is_long (has_form.option_named n is_option).0 ∙ rw is_due
        (after_agrees name c form (option_as n) (v ∷ []) n v words h.skip position places named (option_gives n v) rest has)

    as_flag : (v : Option Text) → long_of word ≡ Some (n, v) → has_name n form.options ≡ false → has_name n form.flags ≡ true →
        run name c (at_word waiting h position) (word ∷ words) ≡ option_map rows_for (flag_in n v (words_in form words places) named)
    as_flag None is_long no_option is_flag =
        run_flag name c waiting h position word n words not_end is_long (has_form.flag_named n no_option is_flag) ∙ rw is_due
        (after_agrees name c form (flag_as n) [] n (codes "true") words h.skip position places named (flag_gives n) rest has)
    as_flag (Some v) is_long no_option is_flag = run_flag_value name c waiting h position word n v words not_end is_long (has_form.flag_named n no_option is_flag)

-- and where nothing is due, since what is pending fails
long_fails : (name : Text) (c : List Rule) (form : Form) → HasForm c form → (waiting : Waiting) (h : Held) (position : ℕ) (word n : Text) (value : Option Text)
    (words : List Text) → bytes_eq word dashes ≡ false → long_of word ≡ Some (n, value) → due c h ≡ None →
    run name c (at_word waiting h position) (word ∷ words) ≡ None
long_fails name c form has_form waiting h position word n value words not_end long is_due =
    either (has_name n form.options)
    (λ is_option. as_option value long is_option)
    (λ no_option. either (has_name n form.flags)
    (λ is_flag. as_flag value long no_option is_flag)
    (λ no_flag. run_unknown name c waiting h position word n value words not_end long (has_form.unknown n no_option no_flag)))
  where
    as_option : (v : Option Text) → long_of word ≡ Some (n, v) → has_name n form.options ≡ true → run name c (at_word waiting h position) (word ∷ words) ≡ None
    as_option None is_long is_option =
        run_waits name c waiting h position word n words not_end is_long (has_form.option_named n is_option).0 ∙ rw is_due refl
    as_option (Some v) is_long is_option =
        run_option name c waiting h position word n v words not_end is_long (has_form.option_named n is_option).0 ∙ rw is_due refl

    as_flag : (v : Option Text) → long_of word ≡ Some (n, v) → has_name n form.options ≡ false → has_name n form.flags ≡ true →
        run name c (at_word waiting h position) (word ∷ words) ≡ None
    as_flag None is_long no_option is_flag =
        run_flag name c waiting h position word n words not_end is_long (has_form.flag_named n no_option is_flag) ∙ rw is_due refl
    as_flag (Some v) is_long no_option is_flag = run_flag_value name c waiting h position word n v words not_end is_long (has_form.flag_named n no_option is_flag)

-- a word at a place
place_agrees : (name : Text) (c : List Rule) (form : Form) (h : Held) (position : ℕ) (word : Text) (words places : List Text) (named : Named) →
    bytes_eq word dashes ≡ false → begins_with_minus word ≡ false → due c h ≡ Some (rows_for named) → Agrees name c form words → HasPlaces c position places →
    run name c (at_word idle h position) (word ∷ words) ≡ option_map rows_for (place_in word places (words_in form words) named)
place_agrees name c form h position word words [] named not_end plain is_due rest has =
    run_stray name c h position word words not_end (plain_long word plain) (plain_short word plain) has
place_agrees name c form h position word words (place ∷ places) named not_end plain is_due rest has =
    run_place name c h position place word words not_end (plain_long word plain) (plain_short word plain) has.0 ∙ rw is_due
    (rest.0 (pending_at place (word ∷ []) h.skip (rows_for named)) (min (position + 1) usize_max) places (with_text place word named) has.2
    (due_place c place word position h.skip named has.1))

place_fails : (name : Text) (c : List Rule) (h : Held) (position : ℕ) (word : Text) (words places : List Text) →
    bytes_eq word dashes ≡ false → begins_with_minus word ≡ false → due c h ≡ None → HasPlaces c position places →
    run name c (at_word idle h position) (word ∷ words) ≡ None
place_fails name c h position word words [] not_end plain is_due has =
    run_stray name c h position word words not_end (plain_long word plain) (plain_short word plain) has
place_fails name c h position word words (place ∷ places) not_end plain is_due has =
    run_place name c h position place word words not_end (plain_long word plain) (plain_short word plain) has.0 ∙ rw is_due refl

-- a word before the first `--` is not short
no_short : (word : Text) (words : List Text) → has_short (word ∷ words) ≡ false → is_end word ≡ false → is_short word ≡ false
no_short word words two not_end = either (is_short word) (λ short. let no : true ≡ false = rw (not_end, short) at two in cc) (λ other. other)

rest_two : (word : Text) (words : List Text) → has_short (word ∷ words) ≡ false → is_end word ≡ false → has_short words ≡ false
rest_two word words two not_end = rw (not_end, no_short word words two not_end) at two

idle_agrees : (name : Text) (c : List Rule) (form : Form) → HasForm c form → (word : Text) (words : List Text) → has_short (word ∷ words) ≡ false →
    (has_short words ≡ false → Agrees name c form words) →
    (h : Held) (position : ℕ) (places : List Text) (given : Option Named) → HasPlaces c position places → IsDue c h given →
    run name c (at_word idle h position) (word ∷ words) ≡ option_map rows_for (option_and_then (words_in form (word ∷ words) places) given)
idle_agrees name c form has_form word words two rest h position places None has is_due =
    either (is_end word)
    (λ end. run_end_idle name c h position word words end ∙ agrees_behind name c words idle h position places None has is_due)
    (λ not_end. either (begins_with_minus word)
    (λ minus. long_fails name c form has_form idle h position word (name_in word) (value_in word) words not_end
    (long_long word minus (no_short word words two not_end) not_end) is_due)
    (λ plain. place_fails name c h position word words places not_end plain is_due has))
idle_agrees name c form has_form word words two rest h position places (Some named) has is_due =
    either (is_end word)
    (λ end. rw end (run_end_idle name c h position word words end ∙ agrees_behind name c words idle h position places (Some named) has is_due))
    (λ not_end. either (begins_with_minus word)
    (λ minus. rw (not_end, no_short word words two not_end, minus)
    (long_agrees name c form has_form idle h position word (name_in word) (value_in word) words places named not_end
    (long_long word minus (no_short word words two not_end) not_end) is_due (rest (rest_two word words two not_end)) has))
    (λ plain. rw (not_end, no_short word words two not_end, plain)
    (place_agrees name c form h position word words places named not_end plain is_due (rest (rest_two word words two not_end)) has)))

end_minus : (word : Text) → is_end word ≡ true → begins_with_minus word ≡ true
end_minus [] end = cc
end_minus (b ∷ bs) end = either (b == 45) (λ minus. minus) (λ other. let no : false ≡ true = rw other at end in cc)

waiting_agrees : (name : Text) (c : List Rule) (form : Form) → HasForm c form → (word : Text) (words : List Text) → has_short (word ∷ words) ≡ false →
    (has_short words ≡ false → Agrees name c form words) →
    (n : Text) (skip position : ℕ) (places : List Text) (named : Named) → HasPlaces c position places → has_name n form.options ≡ true →
    run name c (at_word (option n) (pending_at n [] skip (rows_for named)) position) (word ∷ words) ≡ option_map rows_for (waiting_in form (word ∷ words) n places named)
waiting_agrees name c form has_form word words two rest n skip position places named has is_option =
    let found = (has_form.option_named n is_option).1 in
    let empty = due_empty c n skip (rows_for named) found in
    either (is_end word)
    (λ end. rw (end_minus word end)
    (run_end_option name c n (pending_at n [] skip (rows_for named)) position word words end
    ∙ agrees_behind name c words (option n) (pending_at n [] skip (rows_for named)) position places None has empty))
    (λ not_end. either (begins_with_minus word)
    (λ minus. rw minus
    (long_fails name c form has_form (option n) (pending_at n [] skip (rows_for named)) position word (name_in word) (value_in word) words not_end
    (long_long word minus (no_short word words two not_end) not_end) empty))
    (λ plain. rw plain
    (run_value name c position n word skip (rows_for named) words not_end (plain_long word plain) (plain_short word plain) found
    ∙ (rest (rest_two word words two not_end)).0 (pending_at n (word ∷ []) skip (rows_for named)) position places (with_text n word named) has
    (due_option c n word skip named found))))

pub agrees : (name : Text) (c : List Rule) (form : Form) → HasForm c form → (words : List Text) → has_short words ≡ false → Agrees name c form words
agrees name c form has_form [] two = (
  idle_ends,
  (λ n skip position places named has is_option.
      run_none name c (at_word (option n) (pending_at n [] skip (rows_for named)) position) ∙ due_empty c n skip (rows_for named) (has_form.option_named n is_option).1),
)
  where
    idle_ends : (h : Held) (position : ℕ) (places : List Text) (given : Option Named) → HasPlaces c position places → IsDue c h given →
        run name c (at_word idle h position) [] ≡ option_map rows_for (option_and_then (words_in form [] places) given)
    idle_ends h position places None has is_due = run_none name c (at_word idle h position) ∙ is_due
    idle_ends h position places (Some named) has is_due = run_none name c (at_word idle h position) ∙ is_due
agrees name c form has_form (word ∷ words) two = (
  idle_agrees name c form has_form word words two (λ rest. agrees name c form has_form words rest),
  waiting_agrees name c form has_form word words two (λ rest. agrees name c form has_form words rest),
)

-- and so from the first word on
pub agrees_whole : (name : Text) (c : List Rule) (form : Form) → HasForm c form → HasPlaces c 1 form.places → (words : List Text) → has_short words ≡ false →
    run name c (at_word idle (rows_at 0 []) 1) words ≡ option_map rows_for (words_in form words form.places [])
agrees_whole name c form has_form has words two = (agrees name c form has_form words two).0 (rows_at 0 []) 1 form.places (Some []) has refl
