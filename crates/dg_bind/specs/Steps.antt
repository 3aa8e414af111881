-- The steps of a transaction, from the words of a script.
use Rattle.std.specs.Prelude.{ℕ, ◌+◌, List, [], ◌∷◌, ◌++◌, cond, Option, Some, None, Result, Ok, Err}
use Rattle.dg_base.specs.declared.datum.Datum.{Datum}
use Rattle.dg_base.specs.declared.datum.Datum.TheVariants as datum
use Rattle.dg_base.specs.declared.ids.Label.{Label}
use Rattle.dg_base.specs.declared.step.NodeRef.{NodeRef}
use Rattle.dg_base.specs.declared.step.Step.{Step}
use Rattle.dg_base.specs.declared.step.Step.TheVariants as step
use Rattle.dg_base.specs.Names.{label_of, interned}
use Rattle.dg_base.specs.Refusal.{and_then}
use Rattle.dg_labels.specs.Labels.{label_named}
use Rattle.dg_script.specs.declared.command.EpWords.{EpWords}
use Rattle.dg_script.specs.declared.command.SetWords.{SetWords}
use Rattle.dg_script.specs.declared.command.SetWords.TheVariants as set
use Rattle.dg_script.specs.declared.command.StepWords.{StepWords}
use Rattle.dg_script.specs.declared.command.StepWords.TheVariants as words
use Rattle.dg_bind.specs.declared.refusal.Missing.{Missing}
use Rattle.dg_bind.specs.declared.refusal.Missing.TheVariants.{NoName, NoLabel}
use Rattle.dg_bind.specs.Bindings.{Binding}
use Rattle.dg_bind.specs.declared.steps.ArcEnds.{ArcEnds}
use Rattle.dg_bind.specs.Scope.{Scope, node_ref}

abbrev pub or_missing : {A : Type 0} → Missing → Option A → Result A Missing
or_missing missing None = Err missing
or_missing missing (Some x) = Ok x

-- the node of a word, and the schema's label of a word
abbrev pub node_at : Scope → List ℕ → Result NodeRef Missing
node_at s word = or_missing NoName (node_ref s word)

abbrev pub label_at : List ℕ → Result Label Missing
label_at word = or_missing NoLabel (label_named word)

-- the names after a property was named: an open one is interned
abbrev pub interned_at : List (List ℕ) → EpWords → List (List ℕ)
interned_at names at = cond at.by_name (interned names at.label) names

-- the label of a property: the schema's, or that of an open name once it is interned
abbrev pub property_at : List (List ℕ) → EpWords → Result Label Missing
property_at names at = or_missing NoLabel (cond at.by_name (label_of (interned names at.label) at.label) (label_named at.label))

-- what a property is set to
abbrev pub value_at : Label → SetWords → Datum
value_at label (set.Plain value) = value
value_at label (set.Named ptype text) = datum.Prop (record { name = label; ptype = ptype; text = text })

-- both nodes of an arc stand before either label
abbrev pub arc_at : Scope → EpWords → EpWords → Result ArcEnds Missing
arc_at s src dst =
    and_then (node_at s src.node) (λ n. and_then (node_at s dst.node) (λ m.
    and_then (label_at src.label) (λ l. and_then (label_at dst.label) (λ i. Ok (record { src = n; label = l; node = m; input = i })))))

-- set EP VALUE, and clear EP
abbrev pub set_at : Scope → List (List ℕ) → EpWords → SetWords → Result Step Missing
set_at s names at value = and_then (node_at s at.node) (λ n. and_then (property_at names at) (λ l. Ok (step.Set n l (value_at l value))))

abbrev pub clear_at : Scope → List (List ℕ) → EpWords → Result Step Missing
clear_at s names at = and_then (node_at s at.node) (λ n. and_then (property_at names at) (λ l. Ok (step.Clear n l)))

-- a step of these words, or the first name or label that is missing
abbrev pub step_bound : Scope → List (List ℕ) → StepWords → Result Step Missing
step_bound s names (words.Make kind name) = Ok (step.Make kind)
step_bound s names (words.Override name node) = and_then (node_at s node) (λ n. Ok (step.Override n))
step_bound s names (words.Set at value) = set_at s names at value
step_bound s names (words.Clear at) = clear_at s names at
step_bound s names (words.Delete node) = and_then (node_at s node) (λ n. Ok (step.Delete n))
step_bound s names (words.Defective node on) = and_then (node_at s node) (λ n. Ok (step.Mark n on))
step_bound s names (words.Connect src dst) = and_then (arc_at s src dst) (λ a. Ok (step.Connect a.src a.label a.node a.input))
step_bound s names (words.Disconnect src dst) = and_then (arc_at s src dst) (λ a. Ok (step.Disconnect a.src a.label a.node a.input))

-- the names after a step that misses nothing
abbrev pub names_after : List (List ℕ) → StepWords → List (List ℕ)
names_after names (words.Set at value) = interned_at names at
names_after names (words.Clear at) = interned_at names at
names_after names _ = names

-- the name of the new node of a step
abbrev pub new_name : StepWords → Option (List ℕ)
new_name (words.Make kind name) = Some name
new_name (words.Override name node) = Some name
new_name _ = None

abbrev pub with_name : List (List ℕ) → Option (List ℕ) → List (List ℕ)
with_name new None = new
with_name new (Some name) = new ++ name ∷ []

-- the steps so far, the names of their new nodes, and the interned names
pub record Taken : Type 0 where
  pub steps : List Step
  pub new_names : List (List ℕ)
  pub names : List (List ℕ)

-- the number of a step, counted from 1, what it misses, and the names interned by the steps before it
pub record Missed : Type 0 where
  pub step : ℕ
  pub missing : Missing
  pub names : List (List ℕ)

abbrev pub taken : Taken → StepWords → Step → Taken
taken t w s = record { steps = t.steps ++ s ∷ []; new_names = with_name t.new_names (new_name w); names = names_after t.names w }

abbrev pub continued : ℕ → Taken → StepWords → (Taken → Result Taken Missed) → Result Step Missing → Result Taken Missed
continued number t w rest (Ok s) = rest (taken t w s)
continued number t w rest (Err missing) = Err (record { step = number; missing = missing; names = t.names })

abbrev pub bound_from : List Binding → ℕ → List StepWords → Taken → Result Taken Missed
bound_from bound number [] t = Ok t
bound_from bound number (w ∷ ws) t =
    continued number t w (bound_from bound (number + 1) ws) (step_bound (record { bound = bound; new = t.new_names }) t.names w)

-- the steps in order, up to the first that misses a name or a label
abbrev pub steps_bound : List Binding → List (List ℕ) → List StepWords → Result Taken Missed
steps_bound bound names ws = bound_from bound 1 ws (record { steps = []; new_names = []; names = names })
