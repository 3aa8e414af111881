-- What contracts see of a revision: its number from 0, the next id, the graph, and how often each endpoint
-- was dirty.
use Rattle.std.specs.Prelude.{ℕ, ◌+◌, ◌<◌, List, [], All, refl}
use Rattle.std.specs.Coded.{Coded, code_by, coded×, coded_ℕ, coded_list}
use Rattle.dg_base.specs.declared.ids.Endpoint.{Endpoint}
use Rattle.dg_base.specs.declared.limits.TheConstants.{REVISIONS}
use Rattle.dg_base.specs.Tables.{Tables}
use Rattle.dg_base.specs.Graph.{Graph}
use Rattle.dg_base.specs.Dirty.{dirty}
use Rattle.dg_flat.specs.Code.{graph_code}
use Rattle.dg_line.specs.declared.counters.Counted.{Counted}
use Rattle.dg_line.specs.contracts.counters.Counted as counted_type
use Rattle.dg_line.specs.Counts.{count_in, raised, IsAtMost}

pub record Seen : Type 0 where
  pub number : ℕ
  pub next : ℕ
  pub graph : Graph
  pub counters : List Counted

abbrev pub seen_code : Coded Seen
seen_code = code_by (ℕ × (ℕ × (Graph × List Counted))) (coded× coded_ℕ (coded× coded_ℕ (coded× graph_code (coded_list counted_type.the_row.coded))))
    (λ r. (r.number, (r.next, (r.graph, r.counters)))) (λ p. record { number = p.0; next = p.1.0; graph = p.1.1.0; counters = p.1.1.1 }) (λ _. refl)

-- the counter of an endpoint in a revision
abbrev pub counter_at : Seen → Endpoint → ℕ
counter_at r e = count_in r.counters e

-- the number is below the limit, and no counter is above the number
pub record IsRevision (r : Seen) : Type 0 where
  pub below : r.number < REVISIONS
  pub counted : All (IsAtMost r.number) r.counters

-- the first revision of a run
abbrev pub first_revision : Graph → ℕ → Seen
first_revision g next = record { number = 0; next = next; graph = g; counters = [] }

-- the revision after another one, with one more for each of some endpoints
abbrev pub after : Seen → Graph → ℕ → List Endpoint → Seen
after r g next ds = record { number = r.number + 1; next = next; graph = g; counters = raised r.counters ds }

-- the revision after another one where some endpoints were touched: one more for each that is dirty
abbrev pub followed : Tables → Seen → Graph → ℕ → List Endpoint → Seen
followed t r g next touched = after r g next (dirty t g touched)
