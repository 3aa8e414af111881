-- The task that words say.
use Rattle.std.specs.Prelude.{List, [], ◌∷◌, ℕ, cond, ◌==◌, not, ◌&&◌, Result, Ok, bytes_eq, codes}
use Rattle.dg_base.specs.Refusal.{and_then}
use Rattle.dg_words.specs.declared.task.Task.{Task}
use Rattle.dg_words.specs.declared.task.Task.TheVariants.{Run, Check, Build, Gen, Format}
use Rattle.dg_words.specs.declared.task.Usage.{Usage}
use Rattle.dg_words.specs.Paths.{usage, checked, path_of, built_path_of, formatted_path_of}
use Rattle.dg_words.specs.Numbers.{number_of, option_of}
use Rattle.dg_words.specs.Texts.{Given, given_by}
use Rattle.dg_words.specs.Grammar.{run_form, check_form, build_form, gen_form, format_form}

-- the number of workers, 0 to 16, and of answers in the cache, 1 to 1,000,000
abbrev pub workers_of : Given → Result ℕ Usage
workers_of given = option_of 4 0 16 given.workers

abbrev pub cache_of : Given → Result ℕ Usage
cache_of given = option_of 4096 1 1000000 given.cache

-- `run SCRIPT`; the flag stands with no worker alone
abbrev pub run_of : Given → Result Task Usage
run_of given =
    and_then (path_of given.first) (λ script. and_then (workers_of given) (λ workers. and_then (cache_of given) (λ cache.
    checked (not (given.stats && not (workers == 0))) (Run script workers cache given.stats))))

-- `build PATH`
abbrev pub build_of : Given → Result Task Usage
build_of given = and_then (built_path_of given.first) (λ path. and_then (workers_of given) (λ workers. Ok (Build path workers)))

-- `gen SEED SIZE`
abbrev pub gen_of : Given → Result Task Usage
gen_of given =
    and_then (number_of 0 18446744073709551615 given.first) (λ seed. and_then (number_of 1 64 given.second) (λ size.
    and_then (workers_of given) (λ workers. and_then (cache_of given) (λ cache. Ok (Gen seed size workers cache)))))

-- `format PATH`
abbrev pub format_of : Given → Result Task Usage
format_of given = and_then (formatted_path_of given.first) (λ path. Ok (Format path))

-- each task by the words behind its own
abbrev pub run_in : List (List ℕ) → Result Task Usage
run_in words = and_then (given_by run_form words) run_of

abbrev pub check_in : List (List ℕ) → Result Task Usage
check_in words = and_then (given_by check_form words) (λ _. Ok Check)

abbrev pub build_in : List (List ℕ) → Result Task Usage
build_in words = and_then (given_by build_form words) build_of

abbrev pub gen_in : List (List ℕ) → Result Task Usage
gen_in words = and_then (given_by gen_form words) gen_of

abbrev pub format_in : List (List ℕ) → Result Task Usage
format_in words = and_then (given_by format_form words) format_of

abbrev pub task_by : List ℕ → List (List ℕ) → Result Task Usage
task_by task words =
    cond (bytes_eq task (codes "run")) (run_in words) (cond (bytes_eq task (codes "check")) (check_in words)
    (cond (bytes_eq task (codes "build")) (build_in words) (cond (bytes_eq task (codes "gen")) (gen_in words)
    (cond (bytes_eq task (codes "format")) (format_in words) usage))))

abbrev pub task_in : List (List ℕ) → Result Task Usage
task_in [] = usage
task_in (task ∷ words) = task_by task words
