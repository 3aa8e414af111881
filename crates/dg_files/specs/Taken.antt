-- What a sink in memory holds.
use Rattle.std.specs.Prelude.{ℕ, List}
use Rattle.dg_files.specs.Plan.{Plan}

-- the bytes written, which calls fail, and how many bytes a call takes at most
pub record Taken : Type 0 where
  pub bytes : List ℕ
  pub calls : Plan
  pub most : ℕ
