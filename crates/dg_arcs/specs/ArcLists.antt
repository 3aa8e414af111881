-- Arcs in the order in which they were connected, as those of a graph.
use Rattle.std.specs.Prelude.{List, [], cond, filter}
use Rattle.dg_base.specs.declared.ids.NodeId.{NodeId}
use Rattle.dg_base.specs.declared.ids.ArcRec.{ArcRec}
use Rattle.dg_base.specs.Same.{same_node}
use Rattle.dg_base.specs.Graph.{Graph}
use Rattle.dg_base.specs.Changes.{is_arc, with_arc}

-- a graph of arcs alone, as the definitions of a graph's arcs ask
abbrev pub arcs_alone : List ArcRec → Graph
arcs_alone as_ = record { nodes = []; arcs = as_ }

-- with one arc more, the last one, where it isn't there
abbrev pub with_new_arc : List ArcRec → ArcRec → List ArcRec
with_new_arc as_ a = cond (is_arc (arcs_alone as_) a) as_ (with_arc (arcs_alone as_) a).arcs

-- the arcs from a node's properties and outputs
abbrev pub arcs_out_of : List ArcRec → NodeId → List ArcRec
arcs_out_of as_ n = filter (λ a. same_node a.src.node n) as_
