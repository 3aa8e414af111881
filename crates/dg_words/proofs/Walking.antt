-- What a parse makes of a word, step by step, for a command whose arguments are places, options and flags.
use Rattle.std.proofs.Common.{◌≡◌, ◌∙◌, ◌+◌, ◌&&◌, ℕ, Bool, true, false, refl, ap, List, [], ◌∷◌, min, Option, Some, None}
use Rattle.std.specs.Prelude.{option_and_then, fold, bytes_eq}
use Rattle.std.proofs.lemmas.Slice.Eq.{bytes_eq-Decides}
use Rattle.clap.specs.Lexer.{usize_max, long_of, short_of}
use Rattle.clap.specs.Walk.{Held, Row, Rule, Text, Waiting, Walk, idle, option, positional, subcommand_met, arg_by_id, arg_by_index, arg_by_long, settled, used, walked}
use Rattle.clap.specs.Simple.{Shape, filled, new_shape, with_index}
use Rattle.clap.specs.Kinds.{Kinds, or_else}
use Rattle.clap.specs.Faults.{settle_fault, turn_fault, use_fault, walk_fault}
use Rattle.dg_words.specs.Commands.{place_rule, option_rule, flag_rule}

-- ---- steps that may fail

abbrev pub then_if : {X : Type 0} → Kinds → Option X → Option X
then_if [] o = o
then_if (k ∷ ks) o = None

pub then_or : {X : Type 0} (a b : Kinds) (o : Option X) → then_if (or_else a b) o ≡ then_if a (then_if b o)
then_or [] b o = refl
then_or (k ∷ ks) b o = refl

pub then_bind : {X Y : Type 0} (a : Kinds) (x : X) (f : X → Option Y) → then_if a (f x) ≡ option_and_then f (then_if a (Some x))
then_bind [] x f = refl
then_bind (k ∷ ks) x f = refl

-- ---- the command

abbrev pub shape_with : Text → List Rule → Shape
shape_with name rules = record (new_shape name) {
  rules = rules;
  no_binary_name = true;
  disable_help_flag = true;
  disable_help_subcommand = true;
  disable_version_flag = true;
  is_built = true;
}

abbrev pub option_as : Text → Rule
option_as name = filled (option_rule name)

abbrev pub flag_as : Text → Rule
flag_as name = filled (flag_rule name)

abbrev pub place_as : Text → ℕ → Rule
place_as name i = with_index i (filled (place_rule name))

-- ---- where the walk stands

abbrev pub at_word : Waiting → Held → ℕ → Walk
at_word waiting h position = record { held = h; waiting = waiting; position = position; is_trailing = false; stopped = None }

abbrev pub behind_end : Waiting → Held → ℕ → Walk
behind_end waiting h position = record { held = h; waiting = waiting; position = position; is_trailing = true; stopped = None }

abbrev pub pending_at : Text → List Text → ℕ → List Row → Held
pending_at name values skip rows = record { rows = rows; pending = Some (name, values); skip = skip }

abbrev pub rows_at : ℕ → List Row → Held
rows_at skip rows = record { rows = rows; pending = None; skip = skip }

-- the rows once the pending argument is used, where that doesn't fail
abbrev pub due : List Rule → Held → Option (List Row)
due c h = then_if (settle_fault c false h) (Some (settled c h).rows)

-- the rows at the end of the words
abbrev pub run : Text → List Rule → Walk → List Text → Option (List Row)
run name c w words = then_if (walk_fault (shape_with name c) [] w words) (due c (fold (walked c []) w words).held)

run_step : (name : Text) (c : List Rule) (w : Walk) (word : Text) (rest : List Text) →
    run name c w (word ∷ rest) ≡ then_if (turn_fault (shape_with name c) [] w word) (run name c (walked c [] w word) rest)
unfolding walk_fault
run_step name c w word rest =
    then_or (turn_fault (shape_with name c) [] w word) (walk_fault (shape_with name c) [] (walked c [] w word) rest)
    (due c (fold (walked c []) (walked c [] w word) rest).held)

pub run_none : (name : Text) (c : List Rule) (w : Walk) → run name c w [] ≡ due c w.held
unfolding walk_fault
run_none name c w = refl

-- ---- a word of each sort

abbrev pub dashes : Text
dashes = 45 ∷ 45 ∷ []

-- `--`
pub run_end_idle : (name : Text) (c : List Rule) (h : Held) (position : ℕ) (word : Text) (rest : List Text) → bytes_eq word dashes ≡ true →
    run name c (at_word idle h position) (word ∷ rest) ≡ run name c (behind_end idle h position) rest
unfolding walked
run_end_idle name c h position word rest end = run_step name c (at_word idle h position) word rest ∙ rw end refl

pub run_end_option : (name : Text) (c : List Rule) (id : Text) (h : Held) (position : ℕ) (word : Text) (rest : List Text) → bytes_eq word dashes ≡ true →
    run name c (at_word (option id) h position) (word ∷ rest) ≡ run name c (behind_end (option id) h position) rest
unfolding walked
run_end_option name c id h position word rest end = run_step name c (at_word (option id) h position) word rest ∙ rw end refl

-- a word at a place
and_false : (b : Bool) → (b && false) ≡ false
and_false true = refl
and_false false = refl

pub run_place : (name : Text) (c : List Rule) (h : Held) (position : ℕ) (place word : Text) (rest : List Text) →
    bytes_eq word dashes ≡ false → long_of word ≡ None → short_of word ≡ None → arg_by_index c position ≡ Some (place_as place position) →
    run name c (at_word idle h position) (word ∷ rest) ≡
    option_and_then (λ rows. run name c (at_word idle (pending_at place (word ∷ []) h.skip rows) (min (position + 1) usize_max)) rest) (due c h)
unfolding walked
run_place name c h position place word rest not_end no_long no_short found =
    run_step name c (at_word idle h position) word rest ∙ rw (not_end, no_long, no_short, found, and_false)
    (then_bind (settle_fault c false h) (settled c h).rows
    (λ rows. run name c (at_word idle (pending_at place (word ∷ []) h.skip rows) (min (position + 1) usize_max)) rest))

pub run_stray : (name : Text) (c : List Rule) (h : Held) (position : ℕ) (word : Text) (rest : List Text) →
    bytes_eq word dashes ≡ false → long_of word ≡ None → short_of word ≡ None → arg_by_index c position ≡ None →
    run name c (at_word idle h position) (word ∷ rest) ≡ None
unfolding walked
run_stray name c h position word rest not_end no_long no_short found =
    run_step name c (at_word idle h position) word rest ∙ rw (not_end, no_long, no_short, found) refl

-- the same behind a `--`
pub run_place_behind : (name : Text) (c : List Rule) (waiting : Waiting) (h : Held) (position : ℕ) (place word : Text) (rest : List Text) →
    arg_by_index c position ≡ Some (place_as place position) →
    run name c (behind_end waiting h position) (word ∷ rest) ≡
    option_and_then (λ rows. run name c (behind_end idle (pending_at place (word ∷ []) h.skip rows) (min (position + 1) usize_max)) rest) (due c h)
unfolding walked
run_place_behind name c waiting h position place word rest found =
    run_step name c (behind_end waiting h position) word rest ∙ rw (found, and_false)
    (then_bind (settle_fault c false h) (settled c h).rows
    (λ rows. run name c (behind_end idle (pending_at place (word ∷ []) h.skip rows) (min (position + 1) usize_max)) rest))

pub run_stray_behind : (name : Text) (c : List Rule) (waiting : Waiting) (h : Held) (position : ℕ) (word : Text) (rest : List Text) →
    arg_by_index c position ≡ None → run name c (behind_end waiting h position) (word ∷ rest) ≡ None
unfolding walked
run_stray_behind name c waiting h position word rest found = run_step name c (behind_end waiting h position) word rest ∙ rw found refl

-- `--name` and `--name=value`
no_names : (waiting : Waiting) (word : Text) → subcommand_met [] waiting word ≡ None
no_names idle word = refl
no_names (option id) word = refl
no_names positional word = refl

-- the rows after a use, where that doesn't fail
abbrev pub use_rows : Rule → List Text → List Row → Option (List Row)
use_rows a values rows = then_if (use_fault false a values rows) (Some (used a values rows))

-- what is pending is used, and then an argument with these values
abbrev pub after_use : Text → List Rule → Rule → List Text → ℕ → ℕ → List Text → List Row → Option (List Row)
after_use name c a values skip position rest rows =
    option_and_then (λ after. run name c (at_word idle (rows_at skip after) position) rest) (use_rows a values rows)

pub run_unknown : (name : Text) (c : List Rule) (waiting : Waiting) (h : Held) (position : ℕ) (word n : Text) (v : Option Text) (rest : List Text) →
    bytes_eq word dashes ≡ false → long_of word ≡ Some (n, v) → arg_by_long c n ≡ None →
    run name c (at_word waiting h position) (word ∷ rest) ≡ None
unfolding walked
run_unknown name c waiting h position word n v rest not_end long found =
    run_step name c (at_word waiting h position) word rest ∙ rw (no_names waiting word, not_end, long, found) refl

pub run_option : (name : Text) (c : List Rule) (waiting : Waiting) (h : Held) (position : ℕ) (word n v : Text) (rest : List Text) →
    bytes_eq word dashes ≡ false → long_of word ≡ Some (n, Some v) → arg_by_long c n ≡ Some (option_as n) →
    run name c (at_word waiting h position) (word ∷ rest) ≡ option_and_then (after_use name c (option_as n) (v ∷ []) h.skip position rest) (due c h)
unfolding walked
run_option name c waiting h position word n v rest not_end long found =
    let next : List Row → Option (List Row) = λ after. run name c (at_word idle (rows_at h.skip after) position) rest in
    let rows = (settled c h).rows in
    let a = option_as n in
    run_step name c (at_word waiting h position) word rest ∙ rw (no_names waiting word, not_end, long, found)
    (then_or (or_else (settle_fault c false h) (use_fault false a (v ∷ []) rows)) [] (next (used a (v ∷ []) rows))
    ∙ then_or (settle_fault c false h) (use_fault false a (v ∷ []) rows) (next (used a (v ∷ []) rows))
    ∙ ap (λ (o : Option (List Row)). then_if (settle_fault c false h) o) (then_bind (use_fault false a (v ∷ []) rows) (used a (v ∷ []) rows) next)
    ∙ then_bind (settle_fault c false h) rows (after_use name c a (v ∷ []) h.skip position rest))

pub run_waits : (name : Text) (c : List Rule) (waiting : Waiting) (h : Held) (position : ℕ) (word n : Text) (rest : List Text) →
    bytes_eq word dashes ≡ false → long_of word ≡ Some (n, None) → arg_by_long c n ≡ Some (option_as n) →
    run name c (at_word waiting h position) (word ∷ rest) ≡
    option_and_then (λ rows. run name c (at_word (option n) (pending_at n [] h.skip rows) position) rest) (due c h)
unfolding walked
run_waits name c waiting h position word n rest not_end long found =
    let next : List Row → Option (List Row) = λ rows. run name c (at_word (option n) (pending_at n [] h.skip rows) position) rest in
    run_step name c (at_word waiting h position) word rest ∙ rw (no_names waiting word, not_end, long, found)
    (then_or (settle_fault c false h) [] (next (settled c h).rows) ∙ then_bind (settle_fault c false h) (settled c h).rows next)

pub run_flag : (name : Text) (c : List Rule) (waiting : Waiting) (h : Held) (position : ℕ) (word n : Text) (rest : List Text) →
    bytes_eq word dashes ≡ false → long_of word ≡ Some (n, None) → arg_by_long c n ≡ Some (flag_as n) →
    run name c (at_word waiting h position) (word ∷ rest) ≡ option_and_then (after_use name c (flag_as n) [] h.skip position rest) (due c h)
unfolding walked
run_flag name c waiting h position word n rest not_end long found =
    let next : List Row → Option (List Row) = λ after. run name c (at_word idle (rows_at h.skip after) position) rest in
    let rows = (settled c h).rows in
    let a = flag_as n in
    run_step name c (at_word waiting h position) word rest ∙ rw (no_names waiting word, not_end, long, found)
    (then_or (or_else (settle_fault c false h) (use_fault false a [] rows)) [] (next (used a [] rows))
    ∙ then_or (settle_fault c false h) (use_fault false a [] rows) (next (used a [] rows))
    ∙ ap (λ (o : Option (List Row)). then_if (settle_fault c false h) o) (then_bind (use_fault false a [] rows) (used a [] rows) next)
    ∙ then_bind (settle_fault c false h) rows (after_use name c a [] h.skip position rest))

pub run_flag_value : (name : Text) (c : List Rule) (waiting : Waiting) (h : Held) (position : ℕ) (word n v : Text) (rest : List Text) →
    bytes_eq word dashes ≡ false → long_of word ≡ Some (n, Some v) → arg_by_long c n ≡ Some (flag_as n) →
    run name c (at_word waiting h position) (word ∷ rest) ≡ None
unfolding walked
run_flag_value name c waiting h position word n v rest not_end long found =
    run_step name c (at_word waiting h position) word rest ∙ rw (no_names waiting word, not_end, long, found) refl

-- a word that is the value of an option
pub run_value : (name : Text) (c : List Rule) (position : ℕ) (n word : Text) (skip : ℕ) (rows : List Row) (rest : List Text) →
    bytes_eq word dashes ≡ false → long_of word ≡ None → short_of word ≡ None → arg_by_id c n ≡ Some (option_as n) →
    run name c (at_word (option n) (pending_at n [] skip rows) position) (word ∷ rest) ≡
    run name c (at_word idle (pending_at n (word ∷ []) skip rows) position) rest
unfolding walked
run_value name c position n word skip rows rest not_end no_long no_short found =
    let same : bytes_eq n n ≡ true = (bytes_eq-Decides n n).1 refl in
    run_step name c (at_word (option n) (pending_at n [] skip rows) position) word rest ∙ rw (not_end, no_long, no_short, found, same) refl
