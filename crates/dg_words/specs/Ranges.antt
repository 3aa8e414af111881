-- The ranges of the numbers that words say.
use Rattle.std.specs.Prelude.{◌≡◌, ◌≤◌, ℕ, List, Ok}
use Rattle.dg_words.specs.declared.task.Task.{Task}
use Rattle.dg_words.specs.declared.task.Task.TheVariants.{Run, Check, Build, Gen, Format}
use Rattle.dg_words.specs.Tasks.{task_in}

-- a number of workers, and of answers in the cache
pub record AreSettings (w c : ℕ) : Type 0 where
  pub workers : w ≤ 16
  pub some : 1 ≤ c
  pub most : c ≤ 1000000

-- and the size of a project that is made
pub record AreMaking (size w c : ℕ) : Type 0 where
  pub some : 1 ≤ size
  pub most : size ≤ 64
  pub settings : AreSettings w c

abbrev pub IsInRange : Task → Type 0
IsInRange (Run script workers cache stats) = AreSettings workers cache
IsInRange Check = Unit {0}
IsInRange (Build path workers) = workers ≤ 16
IsInRange (Gen seed size workers cache) = AreMaking size workers cache
IsInRange (Format path) = Unit {0}

-- of every task that words say
abbrev pub NumbersAreInRange : Type 0
NumbersAreInRange = (words : List (List ℕ)) (task : Task) → task_in words ≡ Ok task → IsInRange task
