-- What can be undone: a change of a graph, with what it touched.
use Rattle.std.specs.Prelude.{List, [], ◌∷◌, refl}
use Rattle.std.specs.Coded.{Coded, code_by, coded×, coded_list}
use Rattle.dg_base.specs.declared.ids.Endpoint.{Endpoint}
use Rattle.dg_base.specs.contracts.ids.Endpoint as end_type
use Rattle.dg_base.specs.Graph.{Graph}
use Rattle.dg_flat.specs.Code.{graph_code}

pub record Changed : Type 0 where
  pub before : Graph
  pub after : Graph
  pub touched : List Endpoint

-- what the latest of some changes touched
abbrev pub touched_first : List Changed → List Endpoint
touched_first [] = []
touched_first (c ∷ cs) = c.touched

abbrev pub changed_code : Coded Changed
changed_code = code_by (Graph × (Graph × List Endpoint)) (coded× graph_code (coded× graph_code (coded_list end_type.the_row.coded)))
    (λ c. (c.before, (c.after, c.touched))) (λ q. record { before = q.0; after = q.1.0; touched = q.1.1 }) (λ _. refl)
