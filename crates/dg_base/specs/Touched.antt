-- The endpoints that a step touches, from the graphs before and after it.
use Rattle.std.specs.Prelude.{ℕ, List, [], ◌∷◌, ◌++◌, Bool, true, false, cond, Option, Some, None, map, filter, flat_map, nat_le}
use Rattle.std.specs.List.{list_any}
use Rattle.dg_base.specs.declared.ids.NodeId.{NodeId}
use Rattle.dg_base.specs.declared.ids.Label.{Label}
use Rattle.dg_base.specs.declared.ids.Kind.{Kind}
use Rattle.dg_base.specs.declared.ids.Endpoint.{Endpoint}
use Rattle.dg_base.specs.declared.schema.ArgSpec.{ArgSpec}
use Rattle.dg_base.specs.declared.schema.ArgSpec.TheVariants as arg
use Rattle.dg_base.specs.declared.step.Step.{Step}
use Rattle.dg_base.specs.declared.step.Step.TheVariants as step
use Rattle.dg_base.specs.Same.{same_label}
use Rattle.dg_base.specs.Order.{is_node_among}
use Rattle.dg_base.specs.Role.{is_output}
use Rattle.dg_base.specs.Tables.{Tables}
use Rattle.dg_base.specs.Graph.{Graph}
use Rattle.dg_base.specs.Chain.{kind_of, heirs}
use Rattle.dg_base.specs.Sources.{sources}
use Rattle.dg_base.specs.Rule.{is_open_label, ends_of, endpoints_at}
use Rattle.dg_base.specs.Owned.{doomed}
use Rattle.dg_base.specs.Progress.{Progress}
use Rattle.dg_base.specs.Steps.{node_named}

abbrev pub outputs : Tables → Option Kind → List Label
outputs t None = []
outputs t (Some k) = filter (λ l. is_output (t.role k l)) (t.labels k)

abbrev pub args_of : Tables → Option Kind → Label → List ArgSpec
args_of t None l = []
args_of t (Some k) l = t.args k l

-- whether an argument is an input, is one of which this holds, or is the open values
abbrev pub is_open_arg : ArgSpec → Bool
is_open_arg arg.Open = true
is_open_arg _ = false

abbrev pub is_input_arg : (Label → Bool) → ArgSpec → Bool
is_input_arg holds (arg.Input i) = holds i
is_input_arg holds _ = false

-- the outputs of a node that have an argument of which this holds
abbrev pub outputs_reading : Tables → Graph → (ArgSpec → Bool) → NodeId → List Endpoint
outputs_reading t g reads n =
    ends_of n (filter (λ l. list_any reads (args_of t (kind_of g n) l)) (outputs t (kind_of g n)))

abbrev pub readers_of_input : Tables → Graph → Label → NodeId → List Endpoint
readers_of_input t g i n = outputs_reading t g (is_input_arg (same_label i)) n

-- each output that reads an input which has a source on one of these nodes
abbrev pub is_fed_by : Graph → List NodeId → NodeId → Label → Bool
is_fed_by g ns n i = list_any (λ s. is_node_among ns s.node) (sources g n i)

abbrev pub readers_of_nodes : Tables → Graph → List NodeId → List Endpoint
readers_of_nodes t g ns =
    flat_map (λ x. outputs_reading t g (is_input_arg (is_fed_by g ns x.id)) x.id) g.nodes

-- Set, Clear: the property at each heir; at an open one also the outputs that read open values
abbrev pub touched_value : Tables → Graph → Label → NodeId → List Endpoint
touched_value t g l n =
    record { node = n; label = l } ∷ cond (is_open_label l) (outputs_reading t g is_open_arg n) []

abbrev pub touched_values : Tables → Graph → Option NodeId → Label → List Endpoint
touched_values t g None l = []
touched_values t g (Some n) l = flat_map (touched_value t g l) (heirs g n)

-- Connect, Disconnect: at each heir of the target the outputs that read the input
abbrev pub touched_readers : Tables → Graph → Option NodeId → Label → List Endpoint
touched_readers t g None i = []
touched_readers t g (Some n) i = flat_map (readers_of_input t g i) (heirs g n)

-- nodes are made: their endpoints, and each output that reads an input with a source on one of them
abbrev pub touched_nodes : Tables → Graph → List NodeId → List Endpoint
touched_nodes t g ns = flat_map (endpoints_at t g) ns ++ readers_of_nodes t g ns

-- the nodes of a graph from an id on
abbrev pub nodes_from : ℕ → Graph → List NodeId
nodes_from next g = filter (λ n. nat_le next n.0) (map (λ x. x.id) g.nodes)

-- Delete: the same of all that goes, in the graph before
abbrev pub touched_doomed : Tables → Graph → Option NodeId → List Endpoint
touched_doomed t g None = []
touched_doomed t g (Some n) = touched_nodes t g (doomed t g n)

-- Mark: the outputs of each heir
abbrev pub touched_outputs : Tables → Graph → Option NodeId → List Endpoint
touched_outputs t g None = []
touched_outputs t g (Some n) = flat_map (λ h. ends_of h (outputs t (kind_of g h))) (heirs g n)

abbrev pub touched_by : Tables → Progress → Progress → Step → List Endpoint
touched_by t p q (step.Make k) = touched_nodes t q.graph (nodes_from p.next q.graph)
touched_by t p q (step.Override n) = touched_nodes t q.graph (nodes_from p.next q.graph)
touched_by t p q (step.Set n l v) = touched_values t p.graph (node_named p n) l
touched_by t p q (step.Clear n l) = touched_values t p.graph (node_named p n) l
touched_by t p q (step.Connect s l n i) =
    touched_readers t p.graph (node_named p n) i ++ touched_nodes t q.graph (nodes_from p.next q.graph)
touched_by t p q (step.Disconnect s l n i) = touched_readers t p.graph (node_named p n) i
touched_by t p q (step.Delete n) = touched_doomed t p.graph (node_named p n)
touched_by t p q (step.Mark n defective) = touched_outputs t p.graph (node_named p n)
