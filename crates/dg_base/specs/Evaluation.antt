-- The walk of an evaluation along dependencies, depth first: an endpoint is listed once what it depends
-- on was taken, in order. Known endpoints aren't entered, and those of them that are met are its hits.
use Rattle.std.specs.Prelude.{ℕ, zero, suc, List, [], ◌∷◌, ◌++◌, Bool, cond, ◌||◌, filter, fold, sum_by}
use Rattle.dg_base.specs.declared.ids.Endpoint.{Endpoint}
use Rattle.dg_base.specs.Order.{is_end_among}
use Rattle.dg_base.specs.Role.{is_cached}
use Rattle.dg_base.specs.Tables.{Tables}
use Rattle.dg_base.specs.Graph.{Graph}
use Rattle.dg_base.specs.Rule.{rule_of, dependencies}
use Rattle.dg_base.specs.Value.{productions_by, enough_fuel, value_at}
use Rattle.dg_base.specs.Sound.{role_at}

pub record Evaluated : Type 0 where
  pub listed : List Endpoint
  pub hits : List Endpoint

abbrev pub nothing_evaluated : Evaluated
nothing_evaluated = record { listed = []; hits = [] }

-- a known endpoint is a hit, once
abbrev pub with_hit : Evaluated → Endpoint → Evaluated
with_hit w e = cond (is_end_among w.hits e) w (record { listed = w.listed; hits = w.hits ++ e ∷ [] })

abbrev pub with_end : Evaluated → Endpoint → Evaluated
with_end w e = record { listed = w.listed ++ e ∷ []; hits = w.hits }

-- an endpoint that was met was listed, or lies on the way here
abbrev pub was_met : List Endpoint → Evaluated → Endpoint → Bool
was_met way w e = is_end_among way e || is_end_among w.listed e

-- what was listed and met so far, and then from an endpoint on; at most so many levels deep
abbrev pub evaluated_within : ℕ → (Endpoint → List Endpoint) → List Endpoint → List Endpoint → Evaluated → Endpoint → Evaluated
evaluated_within zero follow known way w e = w
evaluated_within (suc k) follow known way w e =
    cond (was_met way w e) w (cond (is_end_among known e) (with_hit w e)
    (with_end (fold (evaluated_within k follow known (way ++ e ∷ [])) w (follow e)) e))

-- of an endpoint of a graph, where these were listed and met before. A way meets each endpoint with
-- dependencies once, so that fuel is enough
abbrev pub evaluated : Tables → Graph → List Endpoint → Evaluated → Endpoint → Evaluated
evaluated t g known w e = evaluated_within (enough_fuel t g) (dependencies t g) known [] w e

-- the productions of endpoints that are listed
abbrev pub productions_at : Tables → Graph → Endpoint → ℕ
productions_at t g e = productions_by t (value_at t g) (rule_of t g e)

abbrev pub productions : Tables → Graph → List Endpoint → ℕ
productions t g es = sum_by (productions_at t g) es

-- the cached outputs among endpoints that are listed, in order
abbrev pub is_cached_at : Tables → Graph → Endpoint → Bool
is_cached_at t g e = is_cached (role_at t g e.node e.label)

abbrev pub cached_outputs : Tables → Graph → List Endpoint → List Endpoint
cached_outputs t g es = filter (is_cached_at t g) es
