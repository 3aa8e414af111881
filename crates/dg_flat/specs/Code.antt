-- That a graph is coded by its two lists.
use Rattle.std.specs.Prelude.{List, refl}
use Rattle.std.specs.Coded.{Coded, code_by, coded×, coded_list}
use Rattle.dg_base.specs.Graph.{Graph}
use Rattle.dg_base.specs.declared.graph.Node.{Node}
use Rattle.dg_base.specs.declared.ids.ArcRec.{ArcRec}
use Rattle.dg_base.specs.contracts.graph.Node as node_type
use Rattle.dg_base.specs.contracts.ids.ArcRec as arc_type

abbrev pub graph_code : Coded Graph
graph_code = code_by (List Node × List ArcRec) (coded× (coded_list node_type.the_row.coded) (coded_list arc_type.the_row.coded))
    (λ g. (g.nodes, g.arcs)) (λ p. record { nodes = p.0; arcs = p.1 }) (λ _. refl)
