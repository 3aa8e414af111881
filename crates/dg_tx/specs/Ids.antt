-- Ids in a row.
use Rattle.std.specs.Prelude.{ℕ, zero, suc, ◌+◌, ◌-◌, List, [], ◌∷◌}
use Rattle.dg_base.specs.declared.ids.NodeId.{NodeId}

-- so many ids from one on
abbrev pub ids_from : ℕ → ℕ → List NodeId
ids_from zero first = []
ids_from (suc k) first = record { 0 = first } ∷ ids_from k (first + 1)

-- the ids from the first on that are below the second
abbrev pub ids_between : ℕ → ℕ → List NodeId
ids_between first end = ids_from (end - first) first
