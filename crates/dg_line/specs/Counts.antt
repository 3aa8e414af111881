-- How often each endpoint was dirty: a list, in endpoint order, of those that ever were.
use Rattle.std.specs.Prelude.{ℕ, ◌+◌, ◌≤◌, List, [], ◌∷◌, ◌++◌, cond, map}
use Rattle.dg_base.specs.declared.ids.Endpoint.{Endpoint}
use Rattle.dg_base.specs.Same.{same_end}
use Rattle.dg_base.specs.Order.{is_end_among, ordered}
use Rattle.dg_line.specs.declared.counters.Counted.{Counted}

-- 0 where an endpoint isn't in the list
abbrev pub count_in : List Counted → Endpoint → ℕ
count_in [] e = 0
count_in (c ∷ cs) e = cond (same_end e c.at) c.count (count_in cs e)

abbrev pub counted_ends : List Counted → List Endpoint
counted_ends cs = map (λ c. c.at) cs

-- one more where an endpoint is among some
abbrev pub raised_count : List Counted → List Endpoint → Endpoint → ℕ
raised_count cs ds e = cond (is_end_among ds e) (count_in cs e + 1) (count_in cs e)

abbrev pub raised_at : List Counted → List Endpoint → Endpoint → Counted
raised_at cs ds e = record { at = e; count = raised_count cs ds e }

-- the list with one more for each of some endpoints
abbrev pub raised : List Counted → List Endpoint → List Counted
raised cs ds = map (raised_at cs ds) (ordered (counted_ends cs ++ ds))

abbrev pub IsAtMost : ℕ → Counted → Type 0
IsAtMost n c = c.count ≤ n
