-- Which calls of a thing in memory fail, and how many did.
use Rattle.std.specs.Prelude.{ℕ, ◌+◌, ◌-◌, ◌^◌, ◌==◌, min, Bool, List}
use Rattle.std.specs.List.{list_any}

-- the numbers of the calls that fail, from 1, how many calls were made, and how many of them failed
pub record Plan : Type 0 where
  pub fails : List ℕ
  pub made : ℕ
  pub faults : ℕ

-- one more, up to the greatest u64
abbrev pub one_more : ℕ → ℕ
one_more n = min (n + 1) (2 ^ 64 - 1)

-- whether the next call is one of those that fail
abbrev pub fails_next : Plan → Bool
fails_next plan = list_any (λ n. n == one_more plan.made) plan.fails

-- after one more call that didn't fail
abbrev pub passed : Plan → Plan
passed plan = record plan { made = one_more plan.made }

-- after one more call, which failed
abbrev pub failed : Plan → Plan
failed plan = record plan { made = one_more plan.made; faults = one_more plan.faults }
