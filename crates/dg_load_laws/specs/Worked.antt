-- A small project whose load is accepted.
use Rattle.std.specs.Prelude.{ℕ, List, [], map, Result, Ok, Err}
use Rattle.dg_base.specs.declared.step.RefusedStep.{RefusedStep}
use Rattle.dg_base.specs.Graph.{empty}
use Rattle.dg_base.specs.Transact.{Applied, applied}
use Rattle.dg_kinds_coll.specs.Defold.{defold_tables}
use Rattle.dg_load.specs.Worked.{recursive_steps}

-- the ids that the making steps of an accepted transaction made
abbrev ids_of : Result Applied RefusedStep → List ℕ
ids_of (Ok a) = map (λ n. n.0) a.made
ids_of (Err r) = []

-- a collection that names itself
abbrev pub recursive_ids : List ℕ
recursive_ids = ids_of (applied defold_tables empty 1 recursive_steps)
