-- What holds of the load of every tree of files, as statements that contracts name.
use Rattle.std.specs.Prelude.{◌≡◌, ℕ, ◌<◌, List, Bool, true, false, Contains, filter, length, slice_get, IsTrue, Some, Result, Ok, Err, IfOk}
use Rattle.dg_base.specs.declared.ids.NodeId.{NodeId}
use Rattle.dg_base.specs.declared.step.Step.{Step}
use Rattle.dg_base.specs.declared.step.Step.TheVariants as step
use Rattle.dg_base.specs.declared.step.TxCode.{TxCode}
use Rattle.dg_base.specs.declared.step.TxCode.TheVariants as code
use Rattle.dg_base.specs.declared.step.RefusedStep.{RefusedStep}
use Rattle.dg_base.specs.Graph.{empty, has_node}
use Rattle.dg_base.specs.Transact.{Applied, applied}
use Rattle.dg_files.specs.Tree.{Tree}
use Rattle.dg_kinds_coll.specs.Defold.{defold_tables}
use Rattle.dg_load.specs.declared.draft.Bound.{Bound}
use Rattle.dg_load.specs.declared.whole.Loaded.{Loaded}
use Rattle.dg_load.specs.Loads.{load_of}

-- what holds of the load of each tree, where it passes no limit of the loader
abbrev pub OfEachLoad : (Loaded → Type 0) → Type 0
OfEachLoad holds = (tree : Tree) (names : List (List ℕ)) → IfOk (load_of tree names) (λ l. holds l.0)

-- its steps, done on the empty graph
abbrev pub outcome : Loaded → Result Applied RefusedStep
outcome l = applied defold_tables empty 1 l.steps

-- ---- refusals

-- the codes of the two limits of a graph
abbrev pub IsLimit : TxCode → Type 0
IsLimit code.TooManyNodes = Unit {0}
IsLimit code.TooManyArcs = Unit {0}
IsLimit _ = ⊥

-- each step is done, or one is refused since a limit is met
abbrev pub IsWithinLimits : Result Applied RefusedStep → Type 0
IsWithinLimits (Ok a) = Unit {0}
IsWithinLimits (Err r) = IsLimit r.code

-- no step of a load is refused for anything but the limits of nodes and of arcs
abbrev pub LimitsAloneRefuse : Type 0
LimitsAloneRefuse = OfEachLoad (λ l. IsWithinLimits (outcome l))

-- ---- bound names

-- Make and Override
abbrev pub is_making : Step → Bool
is_making (step.Make k) = true
is_making (step.Override n) = true
is_making _ = false

abbrev pub makes_in : List Step → ℕ
makes_in steps = length (filter is_making steps)

-- each name is bound to one of the nodes that the load's steps make
abbrev pub BoundNamesAreMade : Type 0
BoundNamesAreMade = OfEachLoad (λ l. (b : Bound) → Contains l.bound b → b.node < makes_in l.steps)

-- an accepted load has an id for each of these steps
abbrev pub EachMakeHasAnId : Type 0
EachMakeHasAnId = OfEachLoad (λ l. IfOk (outcome l) (λ a. length a.made ≡ makes_in l.steps))

-- the node of a making step, once a transaction is accepted: its id, which is that of a node of the graph
abbrev pub IsNode : Applied → ℕ → Type 0
IsNode a k = (n : NodeId) × (slice_get a.made k ≡ Some n) × IsTrue (has_node a.graph n)

-- so each name that it binds stands for a node of the graph
abbrev pub BoundNamesAreNodes : Type 0
BoundNamesAreNodes = OfEachLoad (λ l. IfOk (outcome l) (λ a. (b : Bound) → Contains l.bound b → IsNode a b.node))
