-- How a cache is kept: its endpoints by their last use, and a map from endpoints to answers.
use Rattle.std.specs.Prelude.{◌≡◌, ◌≤◌, ℕ, List, [], ◌∷◌, ◌||◌, cond, not, filter, map, nat_lt, length, Option, Some, None, IsTrue}
use Rattle.std.specs.Map.{keys_of}
use Rattle.lru.specs.LruCache.{LruCache}
use Rattle.dg_base.specs.declared.ids.Endpoint.{Endpoint}
use Rattle.dg_base.specs.declared.answer.Answer.{Answer}
use Rattle.dg_base.specs.Same.{same_end}
use Rattle.dg_base.specs.Order.{is_end_among, ordered}
use Rattle.dg_cache.specs.declared.entry.Entry.{Entry}
use Rattle.dg_cache.specs.Entries.{ends_of, ends_once, others}
use Rattle.dg_cache.specs.Caches.{Cached}

-- the endpoints that have a place, the one that was used last first
abbrev pub Recency : Type 0
Recency = Option (LruCache Endpoint (Unit {0}))

abbrev pub ends_by_use : Recency → List Endpoint
ends_by_use None = []
ends_by_use (Some order) = keys_of order.entries

-- how many of them there may be; it is still open where none ever had a place
abbrev pub most_of : ℕ → Recency → ℕ
most_of capacity None = capacity
most_of capacity (Some order) = order.cap

-- the pairs of a map as entries
abbrev pub entries_from : List (Endpoint × Answer) → List Entry
entries_from pairs = map (λ p. record { at = p.0; value = p.1 }) pairs

-- a snapshot's entries: there are none where there is no map
abbrev pub shown : Option (List (Endpoint × Answer)) → List Entry
shown None = []
shown (Some pairs) = entries_from pairs

-- the endpoints in use, each once and at most as many as the capacity, are those of the values
pub record IsLaidOut (capacity : ℕ) (ends : List Endpoint) (values : List Entry) : Type 0 where
  pub some : 1 ≤ capacity
  pub short : length ends ≤ capacity
  pub once : IsTrue (ends_once ends)
  pub same : ends_of values ≡ ordered ends

-- the entries without those of an endpoint, if one is named
abbrev pub leaving : Option Endpoint → List Entry → List Entry
leaving None es = es
leaving (Some e) es = others e es

-- the endpoints without one, if it is named
abbrev pub ends_leaving : Option Endpoint → List Endpoint → List Endpoint
ends_leaving None ends = ends
ends_leaving (Some e) ends = filter (λ x. not (same_end e x)) ends

-- the endpoint of the last entry
abbrev pub last_end : List Entry → Option Endpoint
last_end [] = None
last_end (x ∷ []) = Some x.at
last_end (x ∷ y ∷ es) = last_end (y ∷ es)

-- the endpoint that goes where another one is put: the last one, where that is new and the cache is full
abbrev pub dropped_for : Cached → Endpoint → Option Endpoint
dropped_for c at = cond (is_end_among (ends_of c.entries) at || nat_lt (length c.entries) c.capacity) None (last_end c.entries)
