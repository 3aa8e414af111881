-- A pool of one pass: a job is put, the pool is closed, a second put is refused, the job is taken, and a second take stops.
use Rattle.std.specs.Prelude.{ℕ, List, Bool, true}
use Rattle.dg_pool.specs.Queues.{Closable}
use Rattle.dg_pool.specs.Tallies.{Tally}

abbrev pub queue : List ℕ → Bool → Closable ℕ
queue jobs closed = record { jobs = jobs; closed = closed }

abbrev pub tally : ℕ → ℕ → ℕ → ℕ → ℕ → Tally
tally puts takes refusals stops closes = record { puts = puts; takes = takes; refusals = refusals; stops = stops; closes = closes }

abbrev pub every : ℕ → Bool
every j = true
