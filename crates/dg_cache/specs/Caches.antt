-- What contracts see of a cache.
use Rattle.std.specs.Prelude.{ℕ, ◌≤◌, ◌-◌, List, length, take, IsTrue, refl}
use Rattle.std.specs.Coded.{Coded, code_by, coded×, coded_ℕ, coded_list}
use Rattle.dg_cache.specs.declared.entry.Entry.{Entry}
use Rattle.dg_cache.specs.contracts.entry.Entry as entry_type
use Rattle.dg_cache.specs.Entries.{ends_of, ends_once}

-- how many entries there may be, and the entries, most recent first
pub record Cached : Type 0 where
  pub capacity : ℕ
  pub entries : List Entry

abbrev pub cached_code : Coded Cached
cached_code = code_by (ℕ × List Entry) (coded× coded_ℕ (coded_list entry_type.the_row.coded)) (λ c. (c.capacity, c.entries))
    (λ p. record { capacity = p.0; entries = p.1 }) (λ _. refl)

-- each endpoint has one entry, and there are at most as many as the capacity
pub record IsCached (c : Cached) : Type 0 where
  pub some : 1 ≤ c.capacity
  pub short : length c.entries ≤ c.capacity
  pub once : IsTrue (ends_once (ends_of c.entries))

-- a cache with other entries
abbrev pub holding : Cached → List Entry → Cached
holding c es = record { capacity = c.capacity; entries = es }

-- without so many entries from the end
abbrev pub evicted : ℕ → List Entry → List Entry
evicted gone es = take (length es - gone) es
