-- Endpoints with their dependencies, and the rounds that find what is dirty from these alone.
use Rattle.std.specs.Prelude.{ℕ, zero, suc, List, ◌++◌, map, filter}
use Rattle.std.specs.List.{list_any}
use Rattle.dg_base.specs.declared.ids.Endpoint.{Endpoint}
use Rattle.dg_base.specs.Order.{is_end_among, ordered}
use Rattle.dg_base.specs.Tables.{Tables}
use Rattle.dg_base.specs.Graph.{Graph}
use Rattle.dg_base.specs.Rule.{dependencies}
use Rattle.dg_reads.specs.declared.rounds.EndpointDependencies.{EndpointDependencies}

abbrev pub endpoint_dependencies : Tables → Graph → Endpoint → EndpointDependencies
endpoint_dependencies t g e = record { at = e; on = dependencies t g e }

-- those that depend on one of these
abbrev pub waiting : List EndpointDependencies → List Endpoint → List Endpoint
waiting all es = map (λ n. n.at) (filter (λ n. list_any (is_end_among es) n.on) all)

abbrev pub spread_over : List EndpointDependencies → List Endpoint → List Endpoint
spread_over all es = ordered (es ++ waiting all es)

-- after so many rounds
abbrev pub settled : ℕ → List EndpointDependencies → List Endpoint → List Endpoint
settled zero all es = es
settled (suc k) all es = spread_over all (settled k all es)
