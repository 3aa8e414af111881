-- Which words are which line of a script: the first word says which command it is.
use Rattle.std.specs.Prelude.{ℕ, List, [], ◌∷◌, Bool, true, false, cond, Option, Some, None, Result, Ok, Err, bytes_eq, codes}
use Rattle.dg_script.specs.declared.command.ScriptCode.{ScriptCode}
use Rattle.dg_script.specs.declared.command.ScriptCode.TheVariants as code
use Rattle.dg_script.specs.declared.command.Act.{Act}
use Rattle.dg_script.specs.declared.command.Act.TheVariants as act
use Rattle.dg_script.specs.declared.verbs.StepVerb.{StepVerb}
use Rattle.dg_script.specs.declared.verbs.StepVerb.TheVariants as step
use Rattle.dg_script.specs.declared.verbs.Verb.{Verb}
use Rattle.dg_script.specs.declared.verbs.Verb.TheVariants as verb
use Rattle.dg_script.specs.declared.acts.Row.{Row}
use Rattle.dg_script.specs.declared.acts.Row.TheVariants as row
use Rattle.dg_script.specs.declared.words.Word.{Word}
use Rattle.dg_base.specs.Refusal.{and_then}
use Rattle.dg_script.specs.Forms.{name_of, node_of, pin_name_of, pin_of, count_of, ep_of}
use Rattle.dg_script.specs.Steps.{step_in}

-- the commands by their words
abbrev pub step_named : List ℕ → Option StepVerb
step_named text =
    cond (bytes_eq text (codes "make")) (Some step.Make) (cond (bytes_eq text (codes "override")) (Some step.Override)
    (cond (bytes_eq text (codes "set")) (Some step.Set) (cond (bytes_eq text (codes "clear")) (Some step.Clear)
    (cond (bytes_eq text (codes "delete")) (Some step.Delete) (cond (bytes_eq text (codes "defective")) (Some step.Defective)
    (cond (bytes_eq text (codes "connect")) (Some step.Connect)
    (cond (bytes_eq text (codes "disconnect")) (Some step.Disconnect) None)))))))

abbrev pub asking_named : List ℕ → Option Verb
asking_named text =
    cond (bytes_eq text (codes "pin")) (Some verb.Pin) (cond (bytes_eq text (codes "drop")) (Some verb.Drop)
    (cond (bytes_eq text (codes "ask")) (Some verb.Ask) (cond (bytes_eq text (codes "build")) (Some verb.Build)
    (cond (bytes_eq text (codes "alias")) (Some verb.Alias) (cond (bytes_eq text (codes "evict")) (Some verb.Evict) None)))))

abbrev pub other_named : List ℕ → Option Verb
other_named text =
    cond (bytes_eq text (codes "begin")) (Some verb.Begin) (cond (bytes_eq text (codes "end")) (Some verb.End)
    (cond (bytes_eq text (codes "undo")) (Some verb.Undo) (cond (bytes_eq text (codes "redo")) (Some verb.Redo) (asking_named text))))

abbrev pub step_or_other : Option StepVerb → Option Verb → Option Verb
step_or_other None other = other
step_or_other (Some step) other = Some (verb.Step step)

abbrev pub verb_named : List ℕ → Option Verb
verb_named text = step_or_other (step_named text) (other_named text)

-- a block holds steps, and `end` closes one
abbrev pub place_fault : Bool → Verb → Option ScriptCode
place_fault true (verb.Step _) = None
place_fault true verb.End = None
place_fault true _ = Some code.InBlock
place_fault false verb.End = Some code.NoBlock
place_fault false _ = None

-- begin, end, undo, redo
abbrev pub alone : Row → List Word → Result Row ScriptCode
alone r [] = Ok r
alone r (_ ∷ _) = Err code.Arity

-- pin NAME
abbrev pub pin_in : List Word → Result Act ScriptCode
pin_in (name ∷ []) = and_then (pin_name_of name.text) (λ n. Ok (act.Pin n))
pin_in _ = Err code.Arity

-- drop NAME
abbrev pub drop_in : List Word → Result Act ScriptCode
drop_in (name ∷ []) = and_then (pin_name_of name.text) (λ n. Ok (act.Drop n))
drop_in _ = Err code.Arity

-- ask PIN EP
abbrev pub ask_in : List Word → Result Act ScriptCode
ask_in (pin ∷ at ∷ []) = and_then (pin_of pin.text) (λ p. and_then (ep_of at.text) (λ ep. Ok (act.Ask p ep)))
ask_in _ = Err code.Arity

-- build NODE
abbrev pub build_in : List Word → Result Act ScriptCode
build_in (node ∷ []) = and_then (node_of node.text) (λ n. Ok (act.Build n))
build_in _ = Err code.Arity

-- alias NAME NODE
abbrev pub alias_in : List Word → Result Act ScriptCode
alias_in (name ∷ node ∷ []) = and_then (name_of name.text) (λ n. and_then (node_of node.text) (λ m. Ok (act.Alias n m)))
alias_in _ = Err code.Arity

-- evict N
abbrev pub evict_in : List Word → Result Act ScriptCode
evict_in (most ∷ []) = and_then (count_of most.text) (λ n. Ok (act.Evict n))
evict_in _ = Err code.Arity

abbrev pub as_act : Result Act ScriptCode → Result Row ScriptCode
as_act read = and_then read (λ a. Ok (row.Act a))

-- the row of a command, by the words behind its first one
abbrev pub row_by : Verb → List Word → Result Row ScriptCode
row_by (verb.Step s) words = and_then (step_in s words) (λ s. Ok (row.Step s))
row_by verb.Begin words = alone row.Begin words
row_by verb.End words = alone row.End words
row_by verb.Undo words = alone (row.Act act.Undo) words
row_by verb.Redo words = alone (row.Act act.Redo) words
row_by verb.Pin words = as_act (pin_in words)
row_by verb.Drop words = as_act (drop_in words)
row_by verb.Ask words = as_act (ask_in words)
row_by verb.Build words = as_act (build_in words)
row_by verb.Alias words = as_act (alias_in words)
row_by verb.Evict words = as_act (evict_in words)

abbrev pub placed : Option ScriptCode → Result Row ScriptCode → Result Row ScriptCode
placed None read = read
placed (Some code) read = Err code

abbrev pub row_of : Bool → Option Verb → List Word → Result Row ScriptCode
row_of inside None words = Err code.Word
row_of inside (Some verb) words = placed (place_fault inside verb) (row_by verb words)

-- the row that words are, inside a block or outside; no word is no command
abbrev pub row_in : Bool → List Word → Result Row ScriptCode
row_in inside [] = Ok row.Nothing
row_in inside (first ∷ words) = row_of inside (verb_named first.text) words
