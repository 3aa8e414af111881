-- The numbers of a task are in their ranges.
use Rattle.std.proofs.Common.{◌≡◌, ◌≤◌, ℕ, Bool, true, false, cond, List, [], ◌∷◌, Option, Some, None, Result, Ok, Err, not, ◌&&◌, bytes_eq, codes, refl, subst, arith}
use Rattle.std.specs.Prelude.{IfOk, nat_le, ◌==◌}
use Rattle.std.proofs.lemmas.Bool.Decides.{nat_tests}
use Rattle.std.specs.Str.Parse.{digits_value}
use Rattle.dg_base.specs.Refusal.{and_then}
use Rattle.dg_words.specs.declared.task.Task.{Task}
use Rattle.dg_words.specs.declared.task.Task.TheVariants.{Run, Check, Build, Gen, Format}
use Rattle.dg_words.specs.declared.task.Usage.{Usage}
use Rattle.dg_words.specs.Paths.{checked, path_of, built_path_of, formatted_path_of}
use Rattle.dg_words.specs.Numbers.{is_number, is_in, number_in, number_of, option_of}
use Rattle.dg_words.specs.Grammar.{Form, run_form, check_form, build_form, gen_form, format_form}
use Rattle.dg_words.specs.Texts.{Given, given_by}
use Rattle.dg_words.specs.Tasks.{workers_of, cache_of, run_of, build_of, gen_of, format_of, run_in, check_in, build_in, gen_in, format_in, task_by, task_in}
use Rattle.dg_words.specs.Ranges.{IsInRange}

-- what a second step gives, by what is known of the first
then-ok : {X Y : Type 0} (P : X → Type 0) (Q : Y → Type 0) (r : Result X Usage) (f : X → Result Y Usage) → IfOk r P → ((x : X) → P x → IfOk (f x) Q) → IfOk (and_then r f) Q
then-ok P Q (Ok x) f p q = q x p
then-ok P Q (Err c) f p q = tt

anything : {X : Type 0} (r : Result X Usage) → IfOk r (λ x. Unit {0})
anything (Ok x) = tt
anything (Err c) = tt

checked-ok : {X : Type 0} (P : X → Type 0) (b : Bool) (x : X) → (b ≡ true → P x) → IfOk (checked b x) P
checked-ok P true x p = p refl
checked-ok P false x p = tt

number-ok : (least most : ℕ) (text : List ℕ) → IfOk (number_in least most text) (λ n. (least ≤ n) × (n ≤ most))
number-ok least most text =
    checked-ok (λ n. (least ≤ n) × (n ≤ most)) (is_number text && is_in least most (digits_value 10 text)) (digits_value 10 text)
    (by_tests (is_number text) (digits_value 10 text))
  where
    by_tests : (b : Bool) (n : ℕ) → b && is_in least most n ≡ true → (least ≤ n) × (n ≤ most)
    by_tests b n is = (grind (arith, nat_tests, is), grind (arith, nat_tests, is))

number_of-ok : (least most : ℕ) (text : Option (List ℕ)) → IfOk (number_of least most text) (λ n. (least ≤ n) × (n ≤ most))
number_of-ok least most None = tt
number_of-ok least most (Some text) = number-ok least most text

option-ok : (default least most : ℕ) (text : Option (List ℕ)) → least ≤ default → default ≤ most → IfOk (option_of default least most text) (λ n. (least ≤ n) × (n ≤ most))
option-ok default least most None a b = (a, b)
option-ok default least most (Some text) a b = number-ok least most text

abbrev IsWorkers : ℕ → Type 0
IsWorkers n = (0 ≤ n) × (n ≤ 16)

abbrev IsCache : ℕ → Type 0
IsCache n = (1 ≤ n) × (n ≤ 1000000)

workers-ok : (g : Given) → IfOk (workers_of g) IsWorkers
workers-ok g = option-ok 4 0 16 g.workers (omega arith) (omega arith)

cache-ok : (g : Given) → IfOk (cache_of g) IsCache
cache-ok g = option-ok 4096 1 1000000 g.cache (omega arith) (omega arith)

run-ok : (g : Given) → IfOk (run_of g) IsInRange
run-ok g =
    then-ok (λ p. Unit {0}) IsInRange (path_of g.first) _ (anything (path_of g.first)) (λ script _.
    then-ok IsWorkers IsInRange (workers_of g) _ (workers-ok g) (λ workers w.
    then-ok IsCache IsInRange (cache_of g) _ (cache-ok g) (λ cache c.
    checked-ok IsInRange (not (g.stats && not (workers == 0))) (Run script workers cache g.stats) (λ _.
    record { workers = w.1; some = c.0; most = c.1 }))))

build-ok : (g : Given) → IfOk (build_of g) IsInRange
build-ok g =
    then-ok (λ p. Unit {0}) IsInRange (built_path_of g.first) _ (anything (built_path_of g.first)) (λ path _.
    then-ok IsWorkers IsInRange (workers_of g) _ (workers-ok g) (λ workers w. w.1))

gen-ok : (g : Given) → IfOk (gen_of g) IsInRange
gen-ok g =
    then-ok (λ n. Unit {0}) IsInRange (number_of 0 18446744073709551615 g.first) _ (anything (number_of 0 18446744073709551615 g.first)) (λ seed _.
    then-ok (λ n. (1 ≤ n) × (n ≤ 64)) IsInRange (number_of 1 64 g.second) _ (number_of-ok 1 64 g.second) (λ size s.
    then-ok IsWorkers IsInRange (workers_of g) _ (workers-ok g) (λ workers w.
    then-ok IsCache IsInRange (cache_of g) _ (cache-ok g) (λ cache c.
    record { some = s.0; most = s.1; settings = record { workers = w.1; some = c.0; most = c.1 } }))))

format-ok : (g : Given) → IfOk (format_of g) IsInRange
format-ok g = then-ok (λ p. Unit {0}) IsInRange (formatted_path_of g.first) _ (anything (formatted_path_of g.first)) (λ path _. tt)

given-ok : (form : Form) (words : List (List ℕ)) (f : Given → Result Task Usage) → ((g : Given) → IfOk (f g) IsInRange) → IfOk (and_then (given_by form words) f) IsInRange
given-ok form words f ok = then-ok (λ g. Unit {0}) IsInRange (given_by form words) f (anything (given_by form words)) (λ g _. ok g)

cond-ok : (b : Bool) (x y : Result Task Usage) → IfOk x IsInRange → IfOk y IsInRange → IfOk (cond b x y) IsInRange
cond-ok true x y p q = p
cond-ok false x y p q = q

task-ok : (words : List (List ℕ)) → IfOk (task_in words) IsInRange
task-ok [] = tt
task-ok (task ∷ words) =
    cond-ok (bytes_eq task (codes "run")) _ _ (given-ok run_form words run_of run-ok)
    (cond-ok (bytes_eq task (codes "check")) _ _ (given-ok check_form words (λ _. Ok Check) (λ g. tt))
    (cond-ok (bytes_eq task (codes "build")) _ _ (given-ok build_form words build_of build-ok)
    (cond-ok (bytes_eq task (codes "gen")) _ _ (given-ok gen_form words gen_of gen-ok)
    (cond-ok (bytes_eq task (codes "format")) _ _ (given-ok format_form words format_of format-ok) tt))))

pub in-range : (words : List (List ℕ)) (task : Task) → task_in words ≡ Ok task → IsInRange task
in-range words task is = subst (λ r. IfOk r IsInRange) is (task-ok words)
