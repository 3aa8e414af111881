-- A node's chain is the node, its original, the original of that, and so on to a plain node, whose
-- kind is the kind of them all. The heirs of a node are the nodes whose chain holds it.
use Rattle.std.specs.Prelude.{ℕ, zero, suc, List, [], ◌∷◌, Bool, Option, Some, None, map, filter, length}
use Rattle.std.specs.List.{list_any}
use Rattle.dg_base.specs.declared.ids.NodeId.{NodeId}
use Rattle.dg_base.specs.declared.ids.Kind.{Kind}
use Rattle.dg_base.specs.declared.graph.Node.{Node}
use Rattle.dg_base.specs.declared.graph.Origin.{Origin}
use Rattle.dg_base.specs.declared.graph.Origin.TheVariants as origin
use Rattle.dg_base.specs.Same.{same_node}
use Rattle.dg_base.specs.Graph.{Graph, node_at}

-- the chain above an origin, where `above` gives the chain of an original
abbrev pub above_origin : Origin → (NodeId → List Node) → List Node
above_origin (origin.Plain kind) above = []
above_origin (origin.Over root original) above = above original

abbrev pub chain_from : Option Node → (NodeId → List Node) → List Node
chain_from None above = []
chain_from (Some x) above = x ∷ above_origin x.origin above

-- at most so many nodes of the chain
abbrev pub chain_within : ℕ → Graph → NodeId → List Node
chain_within zero g n = []
chain_within (suc k) g n = chain_from (node_at g n) (chain_within k g)

-- an original's id is smaller than its override node's, so no chain is longer than the graph
abbrev pub chain : Graph → NodeId → List Node
chain g n = chain_within (length g.nodes) g n

-- the kind of the plain node at the end of a chain
abbrev pub kind_by : Origin → Option Kind → Option Kind
kind_by (origin.Plain kind) rest = Some kind
kind_by (origin.Over root original) rest = rest

abbrev pub kind_along : List Node → Option Kind
kind_along [] = None
kind_along (x ∷ xs) = kind_by x.origin (kind_along xs)

abbrev pub kind_of : Graph → NodeId → Option Kind
kind_of g n = kind_along (chain g n)

abbrev pub holds : List Node → NodeId → Bool
holds xs n = list_any (λ x. same_node x.id n) xs

-- in id order
abbrev pub heirs : Graph → NodeId → List NodeId
heirs g n = map (λ x. x.id) (filter (λ x. holds (chain g x.id) n) g.nodes)
