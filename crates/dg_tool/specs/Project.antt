-- What a run makes of a project's files: the state that its script begins with, and the bad places.
use Rattle.std.specs.Prelude.{ℕ, List, [], Option, Some, None, Result, Ok, Err, fold}
use Rattle.std.specs.List.{slice_get}
use Rattle.dg_base.specs.declared.ids.NodeId.{NodeId}
use Rattle.dg_base.specs.declared.step.TxCode.{TxCode}
use Rattle.dg_base.specs.declared.step.TxCode.TheVariants as tx
use Rattle.dg_base.specs.declared.step.RefusedStep.{RefusedStep}
use Rattle.dg_base.specs.Tables.{Tables}
use Rattle.dg_base.specs.Graph.{empty}
use Rattle.dg_base.specs.Transact.{applied}
use Rattle.dg_files.specs.Tree.{Tree}
use Rattle.dg_sources.specs.declared.bad.BadPlace.{BadPlace}
use Rattle.dg_sources.specs.declared.limits.Large.{Large}
use Rattle.dg_sources.specs.declared.limits.Large.TheVariants as large
use Rattle.dg_load.specs.declared.draft.Bound.{Bound}
use Rattle.dg_load.specs.declared.whole.Loaded.{Loaded}
use Rattle.dg_load.specs.Loads.{load_of}
use Rattle.dg_bind.specs.Bindings.{Binding, bind}
use Rattle.dg_base.specs.declared.step.Step.{Step}
use Rattle.dg_base.specs.Refusal.{and_then}
use Rattle.dg_editor.specs.Machine.{made_by, opened}
use Rattle.dg_play.specs.Play.{State, with_bound, with_names}
use Rattle.dg_tool.specs.declared.halt.Halt.{Halt}
use Rattle.dg_tool.specs.declared.halt.Halt.TheVariants as halt
use Rattle.dg_tool.specs.declared.halt.Limit.{Limit}
use Rattle.dg_tool.specs.declared.halt.Limit.TheVariants as limit

-- the limits of the files
abbrev pub limit_of : Large → Limit
limit_of large.Files = limit.Files
limit_of large.File = limit.File
limit_of large.Total = limit.Total

-- and those of the graph: the steps of a load are refused for nothing else
abbrev pub limit_of_step : TxCode → Limit
limit_of_step tx.TooManyArcs = limit.Arcs
limit_of_step _ = limit.Nodes

-- a name stands for the node that the making step of its number made
abbrev pub bind_node : List Binding → List ℕ → Option NodeId → List Binding
bind_node bound name (Some n) = bind bound name n
bind_node bound name None = bound

abbrev pub bind_next : List NodeId → List Binding → Bound → List Binding
bind_next made bound b = bind_node bound b.name (slice_get made b.node)

abbrev pub bind_loaded : List NodeId → List Bound → List Binding → List Binding
bind_loaded made bs bound = fold (bind_next made) bound bs

-- the state before the first command: what these steps make, no pin, and no name
abbrev pub before_all : Tables → List Step → Result State RefusedStep
before_all t ss = and_then (opened t ss) (λ e. Ok (record { editor = e; pins = []; bound = []; names = [] }))

-- a project that was loaded
pub record Project : Type 0 where
  pub begin : State
  pub bad : List BadPlace
  -- how many files were read
  pub file_count : ℕ

-- the state with the names that the load interned and bound
abbrev pub with_loaded : List (List ℕ) → List NodeId → Loaded → State → State
with_loaded names made l s = with_names (with_bound s (bind_loaded made l.bound s.bound)) names

abbrev pub begun : List (List ℕ) → List NodeId → Loaded → Result State RefusedStep → Result Project Halt
begun names made l (Ok s) = Ok (record { begin = with_loaded names made l s; bad = l.bad; file_count = l.file_count })
begun names made l (Err r) = Err (halt.TooLarge (limit_of_step r.code))

abbrev pub project_of : Tables → List (List ℕ) → Loaded → Result Project Halt
project_of t names l = begun names (made_by (applied t empty 1 l.steps)) l (before_all t l.steps)

abbrev pub project_in : Tables → Result (Loaded × List (List ℕ)) Large → Result Project Halt
project_in t (Ok l) = project_of t l.1 l.0
project_in t (Err what) = Err (halt.TooLarge (limit_of what))

-- the project of a tree, or the first limit that it passes
abbrev pub loaded : Tables → Tree → Result Project Halt
loaded t tree = project_in t (load_of tree [])
