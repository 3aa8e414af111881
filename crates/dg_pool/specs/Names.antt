-- The names of a pool's ledgers, and among how many passes each is cut.
use Rattle.std.specs.Prelude.{◌≡◌, ℕ}
use Rattle.dg_pool.specs.declared.names.Blanks.{Blanks}

pub record Names : Type 0 where
  pub passes : ℕ
  pub puts : ℕ
  pub takes : ℕ
  pub refusals : ℕ
  pub stops : ℕ
  pub closes : ℕ

-- the names that no pool has yet
abbrev pub names_of : Blanks → Names
names_of b = record { passes = b.puts.parts; puts = b.puts.name; takes = b.takes.name; refusals = b.refusals.name; stops = b.stops.name; closes = b.closes.name }

-- these ledgers have these names, and a part for each pass
pub record AreNamed (n : Names) (b : Blanks) : Type 0 where
  pub puts_name : b.puts.name ≡ n.puts
  pub puts_parts : b.puts.parts ≡ n.passes
  pub takes_name : b.takes.name ≡ n.takes
  pub takes_parts : b.takes.parts ≡ n.passes
  pub refusals_name : b.refusals.name ≡ n.refusals
  pub refusals_parts : b.refusals.parts ≡ n.passes
  pub stops_name : b.stops.name ≡ n.stops
  pub stops_parts : b.stops.parts ≡ n.passes
  pub closes_name : b.closes.name ≡ n.closes
  pub closes_parts : b.closes.parts ≡ n.passes
