-- What is dirty where some endpoints were touched: the least list, in endpoint order, that holds them
-- and every endpoint of the graph that has a dependency in it. It is found in rounds, and a round that
-- isn't the last one adds an endpoint of the graph.
use Rattle.std.specs.Prelude.{ℕ, zero, suc, List, ◌++◌, Bool, filter, length}
use Rattle.std.specs.List.{list_any}
use Rattle.dg_base.specs.declared.ids.Endpoint.{Endpoint}
use Rattle.dg_base.specs.Order.{is_end_among, ordered}
use Rattle.dg_base.specs.Tables.{Tables}
use Rattle.dg_base.specs.Graph.{Graph}
use Rattle.dg_base.specs.Rule.{dependencies, endpoints}

-- whether an endpoint depends on one of these
abbrev pub depends_on : Tables → Graph → List Endpoint → Endpoint → Bool
depends_on t g es e = list_any (is_end_among es) (dependencies t g e)

-- one round: these, and every endpoint that depends on one of them
abbrev pub spread : Tables → Graph → List Endpoint → List Endpoint
spread t g es = ordered (es ++ filter (depends_on t g es) (endpoints t g))

abbrev pub dirty_within : ℕ → Tables → Graph → List Endpoint → List Endpoint
dirty_within zero t g es = ordered es
dirty_within (suc k) t g es = spread t g (dirty_within k t g es)

abbrev pub dirty : Tables → Graph → List Endpoint → List Endpoint
dirty t g es = dirty_within (length (endpoints t g)) t g es
