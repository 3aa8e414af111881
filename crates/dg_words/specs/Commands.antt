-- The command of each task, as a parse reads it, and what a parse by it gives.
use Rattle.std.specs.Prelude.{List, [], ◌∷◌, ℕ, Bool, true, false, not, ◌&&◌, codes, Some, Result}
use Rattle.clap.specs.Walk.{Row, Rule, first_of}
use Rattle.clap.specs.Simple.{App, matches_of, new_app, new_rule, on_top, with_rule}
use Rattle.clap.specs.Faults.{fault_of}
use Rattle.clap.specs.declared.error.kind.ErrorKind.{ErrorKind}
use Rattle.clap.specs.declared.error.kind.ErrorKind.TheVariants as kind
use Rattle.clap.specs.declared.builder.action.ArgAction.TheVariants.{Set, SetTrue}
use Rattle.dg_base.specs.declared.refusal.Refusal.{Refusal}
use Rattle.dg_base.specs.declared.refusal.Refusal.TheVariants as refusal
use Rattle.dg_words.specs.declared.task.Usage.{Usage}
use Rattle.dg_words.specs.Paths.{checked}
use Rattle.dg_words.specs.Grammar.{has_short}
use Rattle.dg_words.specs.Texts.{Given, is_flagged}

-- a word that has to stand at its place, an option with a value, and one without
abbrev pub place_rule : List ℕ → Rule
place_rule name = record (new_rule name) { required = true; action = Some Set }

abbrev pub option_rule : List ℕ → Rule
option_rule name = record (new_rule name) { long = Some name; action = Some Set }

abbrev pub flag_rule : List ℕ → Rule
flag_rule name = record (new_rule name) { long = Some name; action = Some SetTrue }

abbrev pub bare_app : List ℕ → App
bare_app name = on_top (λ s. record s { no_binary_name = true; disable_help_flag = true; disable_version_flag = true }) (new_app name)

abbrev pub run_app : App
run_app =
    with_rule (with_rule (with_rule (with_rule (bare_app (codes "run")) (place_rule (codes "first")))
    (option_rule (codes "workers"))) (option_rule (codes "cache"))) (flag_rule (codes "stats"))

abbrev pub check_app : App
check_app = bare_app (codes "check")

abbrev pub build_app : App
build_app = with_rule (with_rule (bare_app (codes "build")) (place_rule (codes "first"))) (option_rule (codes "workers"))

abbrev pub gen_app : App
gen_app =
    with_rule (with_rule (with_rule (with_rule (bare_app (codes "gen")) (place_rule (codes "first"))) (place_rule (codes "second")))
    (option_rule (codes "workers"))) (option_rule (codes "cache"))

abbrev pub format_app : App
format_app = with_rule (bare_app (codes "format")) (place_rule (codes "first"))

-- what a parse found
abbrev pub found_in : List Row → Given
found_in rows = record {
  first = first_of (codes "first") rows;
  second = first_of (codes "second") rows;
  workers = first_of (codes "workers") rows;
  cache = first_of (codes "cache") rows;
  stats = is_flagged (first_of (codes "stats") rows);
}

abbrev pub is_none : {X : Type 0} → List X → Bool
is_none [] = true
is_none (x ∷ xs) = false

-- a parse takes the words, and no short one stands before the first `--`
abbrev pub is_taken : App → List (List ℕ) → Bool
is_taken app words = not (has_short words) && is_none (fault_of app words)

abbrev pub parsed_by : App → List (List ℕ) → Result Given Usage
parsed_by app words = checked (is_taken app words) (found_in (matches_of app words))

abbrev pub refusal_by : ErrorKind → Refusal Usage
refusal_by kind.OutOfMemory = refusal.NoMemory
refusal_by _ = refusal.Because (record {})
