-- The sources of an input, along a node's chain: the explicit arcs into it, if there are any or the
-- node is plain; else the sources of the original, each replaced by its override node in the node's own
-- override where there is one.
use Rattle.std.specs.Prelude.{List, [], ◌∷◌, Option, Some, None, map}
use Rattle.dg_base.specs.declared.ids.NodeId.{NodeId}
use Rattle.dg_base.specs.declared.ids.Label.{Label}
use Rattle.dg_base.specs.declared.ids.Endpoint.{Endpoint}
use Rattle.dg_base.specs.declared.graph.Node.{Node}
use Rattle.dg_base.specs.declared.graph.Origin.{Origin}
use Rattle.dg_base.specs.declared.graph.Origin.TheVariants as origin
use Rattle.dg_base.specs.Graph.{Graph, override_in, explicit_sources}
use Rattle.dg_base.specs.Chain.{chain}

-- the same label of the override node, where there is one
abbrev pub moved_to : Endpoint → Option NodeId → Endpoint
moved_to s None = s
moved_to s (Some m) = record { node = m; label = s.label }

abbrev pub replaced : Graph → NodeId → Endpoint → Endpoint
replaced g root s = moved_to s (override_in g root s.node)

-- what a node of this origin inherits, where its original has these sources
abbrev pub inherited_along : Graph → Origin → List Endpoint → List Endpoint
inherited_along g (origin.Plain kind) above = []
inherited_along g (origin.Over root original) above = map (replaced g root) above

abbrev pub explicit_or : List Endpoint → List Endpoint → List Endpoint
explicit_or [] others = others
explicit_or (s ∷ ss) others = s ∷ ss

abbrev pub sources_along : Graph → List Node → Label → List Endpoint
sources_along g [] i = []
sources_along g (x ∷ xs) i = explicit_or (explicit_sources g x.id i) (inherited_along g x.origin (sources_along g xs i))

abbrev pub sources : Graph → NodeId → Label → List Endpoint
sources g n i = sources_along g (chain g n) i
