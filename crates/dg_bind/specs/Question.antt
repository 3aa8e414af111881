-- What the words of a question name. Nothing is interned.
use Rattle.std.specs.Prelude.{ℕ, List, [], cond, Option, Some, None}
use Rattle.dg_base.specs.declared.ids.NodeId.{NodeId}
use Rattle.dg_base.specs.declared.ids.Label.{Label}
use Rattle.dg_base.specs.declared.step.NodeRef.{NodeRef}
use Rattle.dg_base.specs.Graph.{Graph}
use Rattle.dg_base.specs.Progress.{Progress}
use Rattle.dg_base.specs.Steps.{id_named}
use Rattle.dg_base.specs.Names.{label_of}
use Rattle.dg_labels.specs.Labels.{label_named}
use Rattle.dg_script.specs.declared.command.EpWords.{EpWords}
use Rattle.dg_bind.specs.Bindings.{Binding}
use Rattle.dg_bind.specs.Scope.{Scope, node_ref}

-- no step is done, and no node is made
abbrev pub no_step_in : Graph → Progress
no_step_in g = record { graph = g; next = 0; made = [] }

-- the node that a reference stands for in a graph. A given id is that node, also where it was deleted
abbrev pub node_in : Graph → NodeRef → Option NodeId
node_in g r = id_named (no_step_in g) r

abbrev pub node_if : Graph → Option NodeRef → Option NodeId
node_if g None = None
node_if g (Some r) = node_in g r

-- the node of a word in a graph
abbrev pub node_of_question : Graph → List Binding → List ℕ → Option NodeId
node_of_question g bound word = node_if g (node_ref (record { bound = bound; new = [] }) word)

-- the label of a property or output: the schema's, or that of an open name that is interned
abbrev pub label_of_question : List (List ℕ) → EpWords → Option Label
label_of_question names at = cond at.by_name (label_of names at.label) (label_named at.label)
