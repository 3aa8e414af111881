-- What the rule of an endpoint reads of a graph: the chain of its node, with the marks and own values of
-- the chain's nodes, and, where it is an output, the sources of the inputs that its arguments name. Of
-- these sources it reads the explicit ones of a node of the chain; and where there are none, those of
-- the node's original and what stands for each of them in the node's own override.
use Rattle.std.specs.Prelude.{◌≡◌, List, [], ◌∷◌, Contains, IsTrue, Some}
use Rattle.dg_base.specs.declared.ids.Label.{Label}
use Rattle.dg_base.specs.declared.ids.Kind.{Kind}
use Rattle.dg_base.specs.declared.ids.Endpoint.{Endpoint}
use Rattle.dg_base.specs.declared.graph.Node.{Node}
use Rattle.dg_base.specs.declared.graph.Origin.{Origin}
use Rattle.dg_base.specs.declared.graph.Origin.TheVariants as origin
use Rattle.dg_base.specs.declared.schema.ArgSpec.TheVariants as arg
use Rattle.dg_base.specs.Role.{is_output}
use Rattle.dg_base.specs.Tables.{Tables}
use Rattle.dg_base.specs.Graph.{Graph, override_in, explicit_sources}
use Rattle.dg_base.specs.Chain.{chain, kind_of}
use Rattle.dg_base.specs.Sources.{sources_along}

-- what is read only where an input has no explicit sources
abbrev pub WhereNone : List Endpoint → Type 0 → Type 0
WhereNone [] read = read
WhereNone (s ∷ ss) read = Unit {0}

-- a node of this origin inherits sources `above`: the same stands for each of them in its own override
abbrev pub SameInherited : Graph → Graph → Origin → List Endpoint → Type 0 → Type 0
SameInherited g h (origin.Plain kind) above read_above = Unit {0}
SameInherited g h (origin.Over root original) above read_above =
    ((s : Endpoint) → Contains above s → override_in g root s.node ≡ override_in h root s.node) × read_above

-- the same is read of two graphs for the sources of an input along a chain
abbrev pub SameAlong : Graph → Graph → List Node → Label → Type 0
SameAlong g h [] i = Unit {0}
SameAlong g h (x ∷ xs) i =
    (explicit_sources g x.id i ≡ explicit_sources h x.id i)
    × WhereNone (explicit_sources g x.id i) (SameInherited g h x.origin (sources_along g xs i) (SameAlong g h xs i))

-- an input whose sources the rule of an endpoint reads: it is an argument of an output
pub record ReadsInput (t : Tables) (g : Graph) (e : Endpoint) (i : Label) : Type 0 where
  pub kind : Kind
  pub is : kind_of g e.node ≡ Some kind
  pub output : IsTrue (is_output (t.role kind e.label))
  pub arg : Contains (t.args kind e.label) (arg.Input i)

-- the rule of an endpoint reads the same of two graphs
pub record ReadsSame (t : Tables) (g h : Graph) (e : Endpoint) : Type 0 where
  pub chains : chain g e.node ≡ chain h e.node
  pub sources : (i : Label) → ReadsInput t g e i → SameAlong g h (chain g e.node) i
