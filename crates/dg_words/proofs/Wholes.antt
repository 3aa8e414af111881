-- A parse by the command of a task gives what the grammar says of its form.
use Rattle.std.proofs.Common.{◌≡◌, ◌∙◌, ◌&&◌, ◌||◌, ℕ, Bool, true, false, not, refl, sym, ap, subst, List, [], ◌∷◌, ◌++◌, Option, Some, None, is_some, codes}
use Rattle.std.specs.Prelude.{option_map, option_and_then, fold, find, slice_get, bytes_eq}
use Rattle.std.specs.List.{list_all}
use Rattle.std.specs.Option.{option_map_or}
use Rattle.std.proofs.lemmas.Slice.Eq.{bytes_eq-Decides}
use Rattle.clap.specs.Facts.{explicit_source}
use Rattle.clap.specs.Walk.{Row, Rule, Text, arg_by_id, arg_by_long, first_of, has_row, more_values, nothing_held, rows_after, settled, walk, walk_from, with_default}
use Rattle.clap.specs.Simple.{App, entered}
use Rattle.clap.specs.Takes.{is_given}
use Rattle.clap.specs.Kinds.{Kinds, check_kinds, or_else}
use Rattle.clap.specs.Faults.{built_fault, check_fault, defaults_fault, entered_fault, settle_fault, walk_fault}
use Rattle.clap.specs.declared.builder.value_parser.Reading.TheVariants.{AsWritten}
use Rattle.clap.specs.declared.parser.matches.ValueSource.TheVariants.{DefaultValue}
use Rattle.dg_words.specs.Paths.{checked}
use Rattle.dg_words.specs.Grammar.{Form, Named, filled_in, has_name, has_short, is_filled, is_named, text_of, words_in, run_form, check_form, build_form, gen_form, format_form}
use Rattle.dg_words.specs.Texts.{Given, given_by, given_of, given_or_usage, is_flagged}
use Rattle.dg_words.specs.Commands.{found_in, is_none, parsed_by, run_app, check_app, build_app, gen_app, format_app}
use Rattle.dg_words.proofs.Walking.{flag_as, option_as, place_as, shape_with}
use Rattle.dg_words.proofs.Using.{at_row-missing, either, has_row-rows_for, rows_for}
use Rattle.dg_words.proofs.Short.{short_refused}
use Rattle.dg_words.proofs.Agrees.{HasForm, HasPlaces, agrees_whole}
use Rattle.dg_words.proofs.Finishing.{behind_words, defaults_fit, find_before, find_last, find_none, first_of-rows_for, from_named, from_rows, has_fit_default, is_given-rows_for, without_defaults}

-- ---- any form

abbrev app_with : Text → List Rule → App
app_with name c = record { top = shape_with name c; subs = [] }

no_below : {X : Type 0} (stop : Option X) → option_map_or (λ _. []) stop [] ≡ let none : Kinds = [] in none
no_below None = refl
no_below (Some p) = refl

-- what is asked behind the last word
abbrev Fits : Text → List Rule → Form → Type 0
Fits name c form =
    (has : Bool) (named : Named) → is_none (check_fault (shape_with name c) (fold with_default (rows_for named) c) has) ≡ is_filled form.places named

abbrev GivesSame : List Rule → Type 0
GivesSame c = (named : Named) → found_in (fold with_default (rows_for named) c) ≡ given_of named

whole : (name : Text) (c : List Rule) (form : Form) → HasForm c form → HasPlaces c 1 form.places → list_all has_fit_default c ≡ true → Fits name c form → GivesSame c →
    (words : List Text) →
    checked (not (has_short words) && is_none (built_fault (app_with name c) nothing_held words)) (found_in (rows_after c [] words)) ≡ given_by form words
whole name c form has_form has_places fit fits same words =
    let end = walk c [] nothing_held words in
    let before : Kinds = walk_fault (shape_with name c) [] (walk_from nothing_held) words in
    let below : Kinds = entered_fault (app_with name c) end.stopped in
    let has : Bool = is_some (entered (app_with name c) end.stopped) in
    let fault : List Row → Kinds = λ rows. or_else (defaults_fault rows c) (check_fault (shape_with name c) (fold with_default rows c) has) in
    let given : List Row → Given = λ rows. found_in (fold with_default rows c) in
    let fits_named : (named : Named) → is_none (fault (rows_for named)) ≡ is_filled form.places named =
    λ named. rw (defaults_fit c (rows_for named) fit) (fits has named) in
    either (has_short words)
    (λ short. rw short (sym (ap (λ (o : Option Named). given_or_usage (option_and_then (filled_in form.places) o)) ((short_refused form words short).0 form.places []))))
    (λ two. rw two (behind_words before below (settle_fault c false end.held) (settled c end.held).rows fault given (no_below end.stopped)
    ∙ ap (from_rows fault given) (agrees_whole name c form has_form has_places words two)
    ∙ from_named fault given form.places fits_named same (words_in form words form.places [])))

-- ---- names

named_as : (known name : Text) → bytes_eq known name ≡ true → (P : Text → Type 0) → P known → P name
named_as known name same P here = subst P ((bytes_eq-Decides known name).0 same) here

one_name : (known name : Text) → has_name name (known ∷ []) ≡ true → (P : Text → Type 0) → P known → P name
one_name known name is P here =
    either (bytes_eq known name) (λ same. named_as known name same P here) (λ other. let no : false ≡ true = rw other at is in cc)

two_names : (one two name : Text) → has_name name (one ∷ two ∷ []) ≡ true → (P : Text → Type 0) → P one → P two → P name
two_names one two name is P here there =
    either (bytes_eq one name) (λ same. named_as one name same P here)
    (λ other. one_name two name (rw other at is) P there)

not_first : (a b : Bool) → (a || b) ≡ false → a ≡ false
not_first false b none = refl
not_first true b none = cc

not_second : (a b : Bool) → (a || b) ≡ false → b ≡ false
not_second false b none = none
not_second true b none = cc

-- ---- forms without a flag

found_same : (named : Named) → found_in (rows_for named) ≡ given_of named
found_same named = λ i. record {
  first = first_of-rows_for (codes "first") named i;
  second = first_of-rows_for (codes "second") named i;
  workers = first_of-rows_for (codes "workers") named i;
  cache = first_of-rows_for (codes "cache") named i;
  stats = ap is_flagged (first_of-rows_for (codes "stats") named) i;
}

gives_same : (c : List Rule) → list_all (λ a. is_none a.defaults) c ≡ true → GivesSame c
gives_same c none named = ap found_in (without_defaults c (rows_for named) none) ∙ found_same named

-- where no row is a default, the places are asked of the rows that are named
fits_without : (name : Text) (c : List Rule) (form : Form) → list_all (λ a. is_none a.defaults) c ≡ true →
    ((has : Bool) (named : Named) → is_none (check_fault (shape_with name c) (rows_for named) has) ≡ is_filled form.places named) → Fits name c form
fits_without name c form none fits has named =
    ap (λ (rows : List Row). is_none (check_fault (shape_with name c) rows has)) (without_defaults c (rows_for named) none) ∙ fits has named

-- a place without its word is a fault
asks_one : (given : Bool) → is_none (check_kinds false false (not given || false)) ≡ (given && true)
asks_one true = refl
asks_one false = refl

asks_two : (given other : Bool) → is_none (check_kinds false false (not given || (not other || false))) ≡ (given && (other && true))
asks_two true true = refl
asks_two true false = refl
asks_two false other = refl

abbrev check_rules : List Rule
check_rules = []

check_has : HasForm check_rules check_form
check_has = record { option_named = λ name is. cc; flag_named = λ name no is. cc; unknown = λ name no none. refl }

check_fits : (has : Bool) (named : Named) → is_none (check_fault (shape_with (codes "check") check_rules) (rows_for named) has) ≡ is_filled check_form.places named
check_fits true named = refl
check_fits false named = refl

pub check_agrees : (words : List Text) → parsed_by check_app words ≡ given_by check_form words
check_agrees words =
    whole (codes "check") check_rules check_form check_has refl refl (fits_without (codes "check") check_rules check_form refl check_fits)
    (gives_same check_rules refl) words

abbrev build_rules : List Rule
build_rules = place_as (codes "first") 1 ∷ option_as (codes "workers") ∷ []

build_has : HasForm build_rules build_form
build_has = record {
  option_named = λ name is. one_name (codes "workers") name is
      (λ n. (arg_by_long build_rules n ≡ Some (option_as n)) × (arg_by_id build_rules n ≡ Some (option_as n))) (refl, refl);
  flag_named = λ name no is. cc;
  unknown = λ name no none. rw (not_first (bytes_eq (codes "workers") name) false no) refl;
}

build_fits : (has : Bool) (named : Named) → is_none (check_fault (shape_with (codes "build") build_rules) (rows_for named) has) ≡ is_filled build_form.places named
build_fits true named =
    rw (is_given-rows_for (codes "first") named) (asks_one (is_named (codes "first") named))
build_fits false named =
    rw (is_given-rows_for (codes "first") named) (asks_one (is_named (codes "first") named))

pub build_agrees : (words : List Text) → parsed_by build_app words ≡ given_by build_form words
build_agrees words =
    whole (codes "build") build_rules build_form build_has (refl, refl, refl) refl (fits_without (codes "build") build_rules build_form refl build_fits)
    (gives_same build_rules refl) words

abbrev format_rules : List Rule
format_rules = place_as (codes "first") 1 ∷ []

format_has : HasForm format_rules format_form
format_has = record { option_named = λ name is. cc; flag_named = λ name no is. cc; unknown = λ name no none. refl }

format_fits : (has : Bool) (named : Named) → is_none (check_fault (shape_with (codes "format") format_rules) (rows_for named) has) ≡ is_filled format_form.places named
format_fits true named =
    rw (is_given-rows_for (codes "first") named) (asks_one (is_named (codes "first") named))
format_fits false named =
    rw (is_given-rows_for (codes "first") named) (asks_one (is_named (codes "first") named))

pub format_agrees : (words : List Text) → parsed_by format_app words ≡ given_by format_form words
format_agrees words =
    whole (codes "format") format_rules format_form format_has (refl, refl, refl) refl (fits_without (codes "format") format_rules format_form refl format_fits)
    (gives_same format_rules refl) words

abbrev gen_rules : List Rule
gen_rules = place_as (codes "first") 1 ∷ place_as (codes "second") 2 ∷ option_as (codes "workers") ∷ option_as (codes "cache") ∷ []

gen_has : HasForm gen_rules gen_form
gen_has = record {
  option_named = λ name is. two_names (codes "workers") (codes "cache") name is
      (λ n. (arg_by_long gen_rules n ≡ Some (option_as n)) × (arg_by_id gen_rules n ≡ Some (option_as n))) (refl, refl) (refl, refl);
  flag_named = λ name no is. cc;
  unknown = λ name no none.
      let rest = not_second (bytes_eq (codes "workers") name) (has_name name (codes "cache" ∷ [])) no in
      rw (not_first (bytes_eq (codes "workers") name) (has_name name (codes "cache" ∷ [])) no, not_first (bytes_eq (codes "cache") name) false rest) refl;
}

gen_fits : (has : Bool) (named : Named) → is_none (check_fault (shape_with (codes "gen") gen_rules) (rows_for named) has) ≡ is_filled gen_form.places named
gen_fits true named =
    rw (is_given-rows_for (codes "first") named, is_given-rows_for (codes "second") named)
    (asks_two (is_named (codes "first") named) (is_named (codes "second") named))
gen_fits false named =
    rw (is_given-rows_for (codes "first") named, is_given-rows_for (codes "second") named)
    (asks_two (is_named (codes "first") named) (is_named (codes "second") named))

pub gen_agrees : (words : List Text) → parsed_by gen_app words ≡ given_by gen_form words
gen_agrees words =
    whole (codes "gen") gen_rules gen_form gen_has (refl, refl, (refl, refl, refl)) refl (fits_without (codes "gen") gen_rules gen_form refl gen_fits)
    (gives_same gen_rules refl) words

-- ---- the form with a flag, which has a default

abbrev placed_rules : List Rule
placed_rules = place_as (codes "first") 1 ∷ option_as (codes "workers") ∷ option_as (codes "cache") ∷ []

abbrev stats_rule : Rule
stats_rule = flag_as (codes "stats")

abbrev run_rules : List Rule
run_rules = place_as (codes "first") 1 ∷ option_as (codes "workers") ∷ option_as (codes "cache") ∷ stats_rule ∷ []

run_has : HasForm run_rules run_form
run_has = record {
  option_named = λ name is. two_names (codes "workers") (codes "cache") name is
      (λ n. (arg_by_long run_rules n ≡ Some (option_as n)) × (arg_by_id run_rules n ≡ Some (option_as n))) (refl, refl) (refl, refl);
  flag_named = λ name no is. one_name (codes "stats") name is (λ n. arg_by_long run_rules n ≡ Some (flag_as n)) refl;
  unknown = λ name no none.
      let rest = not_second (bytes_eq (codes "workers") name) (has_name name (codes "cache" ∷ [])) no in
      rw (
        not_first (bytes_eq (codes "workers") name) (has_name name (codes "cache" ∷ [])) no,
        not_first (bytes_eq (codes "cache") name) false rest,
        not_first (bytes_eq (codes "stats") name) false none,
      ) refl;
}

-- the row of a flag that does not stand in the words
abbrev no_stats : Row
no_stats = record { id = codes "stats"; values = codes "false" ∷ []; count = None; source = Some DefaultValue; reading = AsWritten }

-- the rows with the flag's default
abbrev with_stats : Named → List Row
with_stats named = with_default (rows_for named) stats_rule

rows_with_stats : (named : Named) → fold with_default (rows_for named) run_rules ≡ with_stats named
rows_with_stats named = ap (λ (rows : List Row). with_default rows stats_rule) (without_defaults placed_rules (rows_for named) refl)

stats_there : (named : Named) → is_named (codes "stats") named ≡ true → with_stats named ≡ rows_for named
stats_there named there = let has : has_row (codes "stats") (rows_for named) ≡ true = has_row-rows_for (codes "stats") named ∙ there in rw has refl

stats_default : (named : Named) → is_named (codes "stats") named ≡ false → with_stats named ≡ rows_for named ++ no_stats ∷ []
stats_default named none =
    let has : has_row (codes "stats") (rows_for named) ≡ false = has_row-rows_for (codes "stats") named ∙ none in
    rw has (at_row-missing (codes "stats") (more_values DefaultValue (codes "false" ∷ [])) (no_stats ∷ []) (rows_for named) has)

-- other rows are found as before
find_other : (name : Text) → bytes_eq (codes "stats") name ≡ false → (named : Named) →
    find (λ r. bytes_eq r.id name) (with_stats named) ≡ find (λ r. bytes_eq r.id name) (rows_for named)
find_other name other named =
    let named_so : Row → Bool = λ r. bytes_eq r.id name in
    either (is_named (codes "stats") named)
    (λ there. ap (λ (rows : List Row). find named_so rows) (stats_there named there))
    (λ none. ap (λ (rows : List Row). find named_so rows) (stats_default named none) ∙ find_before named_so (rows_for named) no_stats other)

text_of-other : (name : Text) → bytes_eq (codes "stats") name ≡ false → (named : Named) → first_of name (with_stats named) ≡ text_of name named
text_of-other name other named =
    ap (λ (o : Option Row). option_and_then (λ r. slice_get r.values 0) o) (find_other name other named) ∙ first_of-rows_for name named

is_given-other : (name : Text) → bytes_eq (codes "stats") name ≡ false → (named : Named) → is_given name (with_stats named) ≡ is_named name named
is_given-other name other named =
    ap (λ (o : Option Row). option_map_or (λ r. explicit_source r.source) o false) (find_other name other named) ∙ is_given-rows_for name named

flag_same : (named : Named) → is_flagged (first_of (codes "stats") (with_stats named)) ≡ is_flagged (text_of (codes "stats") named)
flag_same named =
    let stats_row : Row → Bool = λ r. bytes_eq r.id (codes "stats") in
    let flag_in : Option Row → Bool = λ o. is_flagged (option_and_then (λ r. slice_get r.values 0) o) in
    either (is_named (codes "stats") named)
    (λ there. ap (λ (rows : List Row). is_flagged (first_of (codes "stats") rows)) (stats_there named there) ∙ ap is_flagged (first_of-rows_for (codes "stats") named))
    (λ none.
    ap (λ (rows : List Row). flag_in (find stats_row rows)) (stats_default named none)
    ∙ ap flag_in (find_last stats_row (rows_for named) no_stats (has_row-rows_for (codes "stats") named ∙ none) refl)
    ∙ sym (ap (λ (o : Option (List ℕ × List ℕ)). is_flagged (option_map (λ n. n.1) o)) (find_none (λ n. bytes_eq n.0 (codes "stats")) named none)))

run_gives : GivesSame run_rules
run_gives named =
    ap found_in (rows_with_stats named) ∙ λ i. record {
      first = text_of-other (codes "first") refl named i;
      second = text_of-other (codes "second") refl named i;
      workers = text_of-other (codes "workers") refl named i;
      cache = text_of-other (codes "cache") refl named i;
      stats = flag_same named i;
    }

run_fits : (has : Bool) (named : Named) → is_none (check_fault (shape_with (codes "run") run_rules) (with_stats named) has) ≡ is_filled run_form.places named
run_fits true named =
    rw (is_given-other (codes "first") refl named) (asks_one (is_named (codes "first") named))
run_fits false named =
    rw (is_given-other (codes "first") refl named) (asks_one (is_named (codes "first") named))

pub run_agrees : (words : List Text) → parsed_by run_app words ≡ given_by run_form words
run_agrees words =
    whole (codes "run") run_rules run_form run_has (refl, refl, refl) refl
    (λ has named. ap (λ (rows : List Row). is_none (check_fault (shape_with (codes "run") run_rules) rows has)) (rows_with_stats named) ∙ run_fits has named)
    run_gives words
