-- What a run leaves, against what is due: the output of the definitions for the words and the tree.
use Rattle.std.specs.Prelude.{◌≡◌, ◌≤◌, ◌⊎◌, ℕ, Bool, true, false, List, [], Option, Some, None, Result, Ok, Err, Vec, map}
use Rattle.std.specs.Option.{option_map}
use Rattle.dg_files.specs.Outcome.{Rose}
use Rattle.dg_files.specs.Tree.{Tree}
use Rattle.dg_tool.specs.declared.status.Status.{Status}
use Rattle.dg_tool.specs.declared.status.Status.TheVariants as status
use Rattle.dg_base.specs.declared.refusal.Refusal.{Refusal}
use Rattle.dg_base.specs.declared.refusal.Refusal.TheVariants as refusal
use Rattle.dg_tool.specs.declared.halt.Halt.{Halt}
use Rattle.dg_tool.specs.declared.halt.Halt.TheVariants as halt
use Rattle.dg_tool.specs.Halts.{IsDue, cut_status, halt_lines, status_of}
use Rattle.dg_base.specs.Tables.{Tables}
use Rattle.dg_words.specs.declared.task.Task.{Task}
use Rattle.dg_words.specs.declared.task.Task.TheVariants.{Run, Check, Build, Gen, Format}
use Rattle.dg_words.specs.declared.task.Usage.{Usage}
use Rattle.dg_line.specs.Revisions.{Seen}
use Rattle.dg_desk.specs.Desks.{Desked}
use Rattle.dg_editor.specs.Machine.{State as Editor}
use Rattle.dg_play.specs.Desk.{IsDeskOf, IsSharedDeskOf}
use Rattle.dg_deeds.specs.declared.deed.Deed.{Deed}
use Rattle.dg_deeds.specs.declared.deed.Stop.{Stop}
use Rattle.dg_deeds.specs.Deeds.{IsBegun, IsUntouched, text_after, tree_after}
use Rattle.dg_deeds.specs.Printed.{GotAll, GotPrefix, text_of}
use Rattle.std.specs.declared.alloc.Global.{Global}
use Rattle.dg_tool.specs.declared.due.Output.{Output}
use Rattle.dg_tool.specs.declared.piece.Piece.{Piece}
use Rattle.dg_tool.specs.declared.start.Started.{Started}
use Rattle.dg_tool.specs.declared.start.Started.TheVariants as started
use Rattle.dg_tool.specs.declared.ended.ToolDesk.{ToolDesk}
use Rattle.dg_tool.specs.declared.ended.ToolDesk.TheVariants as tool
use Rattle.dg_tool.specs.Input.{Start}
use Rattle.dg_tool.specs.Out.{Doing, Misuse, Out, Plays, Tells, halted, out_of_doing, work_from}
use Rattle.dg_tool.specs.Seen.{ArePlain, deeds_of, plain, seen_start}

-- such a status is the one that is due, and all is done: each file is written and each line put, an error's one line
-- among them
pub record IsDone (due : Out) (ended : Status) (tree_before tree_now : Option Tree) (before now : Option (List ℕ)) : Type 0 where
  pub status_due : ended ≡ due.status
  pub files_due : tree_now ≡ option_map (tree_after due.deeds) tree_before
  pub text_due : now ≡ option_map (text_after due.deeds) before

pub record EndsAs (due : Out) (ended : Status) (tree_before tree_now : Option Tree) (before now : Option (List ℕ)) : Type 0 where
  pub done : IsDue ended → IsDone due ended tree_before tree_now before now
  -- else nothing is done, or the first deeds are, in order, and of the next one at most a part: what a failed write leaves
  -- of a file, or a first part of a line
  pub cut_off : (s : Stop) → ended ≡ cut_status s → IsUntouched tree_before tree_now before now ⊎ IsBegun s due.deeds tree_before tree_now before now

-- a fault's status comes only where that count of faults rose in the call, and no count falls
pub record HasCauses (ended : Status) (files_before files_now out_before out_now : ℕ) : Type 0 where
  pub files_never_fall : files_before ≤ files_now
  pub out_never_falls : out_before ≤ out_now
  pub file_cause : ended ≡ status.FileFault → Rose files_before files_now
  pub sink_cause : ended ≡ status.SinkFault → Rose out_before out_now

-- where neither count rose, the status is the one that is due, or memory was wanted
abbrev pub IsComplete : Out → Status → ℕ → ℕ → ℕ → ℕ → Type 0
IsComplete due ended files_before files_now out_before out_now =
    ¬ Rose files_before files_now → ¬ Rose out_before out_now → (ended ≡ due.status) ⊎ (ended ≡ status.NoMemory)

-- ---- what words go by

-- words that say no task need no files, and a project that is made from a seed is played over files of its own
abbrev pub NeedsNoFiles : Result Task Usage → Type 0
NeedsNoFiles (Ok (Gen seed size workers cache)) = Unit {0}
NeedsNoFiles (Ok _) = ⊥
NeedsNoFiles (Err e) = Unit {0}

-- words go by the tree that the files tell; and by any tree where they need no files
abbrev pub GoesBy : Option Tree → Result Task Usage → Tree → Type 0
GoesBy told w tree = (told ≡ Some tree) ⊎ NeedsNoFiles w

-- ---- the desk and the work of a run that is done

-- what is played on one thread leaves, and what is played beside workers
abbrev pub IsLeftAlone : {M : Type 0} → Tables → Start → Desked Seen M → Type 0
IsLeftAlone t s desk = IsDeskOf t s.capacity s.commands s.begin desk

abbrev pub IsLeftShared : {M : Type 0} → Tables → Start → Desked Seen M → Type 0
IsLeftShared t s desk = IsSharedDeskOf t s.commands s.begin desk

abbrev pub IsLeft : {M : Type 0} → Tables → Bool → Start → ToolDesk (Desked Seen M) → Type 0
IsLeft t false s (tool.Alone desk) = IsLeftAlone t s desk
IsLeft t true s (tool.Shared desk) = IsLeftShared t s desk
IsLeft t _ s _ = ⊥

-- of a script that was played the desk is there, and is what the play leaves
abbrev pub IsDeskOfStart : {D : Type 0} → (Start → D → Type 0) → Result Start Halt → Option D → Type 0
IsDeskOfStart leaves (Ok s) (Some desk) = leaves s desk
IsDeskOfStart leaves _ _ = ⊥

-- what plays nothing has none
abbrev pub IsDeskOfDoing : {D : Type 0} → (Start → D → Type 0) → Doing → Option D → Type 0
IsDeskOfDoing leaves (Plays how r) desk = IsDeskOfStart leaves r desk
IsDeskOfDoing leaves _ desk = desk ≡ None

-- how many productions are made
abbrev pub made_by_start : Tables → Result Start Halt → ℕ
made_by_start t (Ok s) = (work_from t s).made
made_by_start t (Err h) = 0

abbrev pub made_by : Tables → Doing → ℕ
made_by t (Plays how r) = made_by_start t r
made_by t _ = 0

-- ---- the parts of a run

-- what words come to before a command is played: the lines that are told, a start, or what ends the run before
abbrev pub IsStarted : {X : Type 0} → (X → Editor) → Tables → Result (Started X) (Refusal Halt) → Doing → Type 0
IsStarted editor t (Ok started.Usage) d = d ≡ Misuse
IsStarted editor t (Ok (started.Told ps)) d = (lines : List (List ℕ)) × (d ≡ Tells (Ok lines)) × (ps.items ≡ map plain lines)
IsStarted editor t (Ok (started.Plays s)) d = d ≡ Plays s.frame.telling (Ok (seen_start editor s))
IsStarted editor t (Err (refusal.Because halt.FileFault)) d = Unit {0}
IsStarted editor t (Err (refusal.Because h)) d = out_of_doing t d ≡ halted h
IsStarted editor t (Err refusal.NoMemory) d = Unit {0}

-- what is known before the first deed: the deeds of a run that is done, or what ends it before
abbrev pub IsOutput : {D : Type 0} → Tables → Result (Output D) (Refusal Halt) → Out → Type 0
IsOutput t (Ok o) due = (due.status ≡ o.status) × (due.deeds ≡ deeds_of t o)
IsOutput t (Err (refusal.Because halt.FileFault)) due = Unit {0}
IsOutput t (Err (refusal.Because h)) due = due ≡ halted h
IsOutput t (Err refusal.NoMemory) due = Unit {0}

-- lines alone
abbrev pub IsPlain : {D : Type 0} → Result (Output D) (Refusal Halt) → Type 0
IsPlain (Ok o) = ArePlain o.pieces.items
IsPlain (Err e) = Unit {0}

-- there is an output, and this is so of it
abbrev pub IfSomeOf : {X E : Type 0} → Result X E → (X → Type 0) → Type 0
IfSomeOf (Ok x) P = P x
IfSomeOf (Err e) P = ⊥

-- lines that are printed of a task that plays nothing
abbrev pub told_alone : {X : Type 0} → Result (Vec Piece Global) (Refusal Halt) → Result (Started X) (Refusal Halt)
told_alone (Ok pieces) = Ok (started.Told pieces)
told_alone (Err e) = Err e

-- what a put of all lines ends with: the status that is due and all of them, or a fault of the sink or
-- want of memory and a first part
abbrev pub IsPut : Status → List (List ℕ) → Status → Option (List ℕ) → Option (List ℕ) → Type 0
IsPut due lines ended before now =
    ((ended ≡ due) × GotAll before now (text_of lines))
    ⊎ (((ended ≡ status.SinkFault) ⊎ (ended ≡ status.NoMemory)) × GotPrefix before now (text_of lines))

-- what is put of a refusal: the line of its cause, and nothing where memory was wanted
abbrev pub IsRefused : Refusal Halt → Status → Option (List ℕ) → Option (List ℕ) → Type 0
IsRefused (refusal.Because h) ended before now = IsPut (status_of h) (halt_lines h) ended before now
IsRefused refusal.NoMemory ended before now = (ended ≡ status.NoMemory) × (now ≡ before)

-- all is done and the status is that of the run, or it is cut off
abbrev pub AreDone : Status → List Deed → Status → Option Tree → Option Tree → Option (List ℕ) → Option (List ℕ) → Type 0
AreDone due deeds ended tree_before tree_now before now =
    ((ended ≡ due) × (tree_now ≡ option_map (tree_after deeds) tree_before) × (now ≡ option_map (text_after deeds) before))
    ⊎ ((s : Stop) × (ended ≡ cut_status s) × IsBegun s deeds tree_before tree_now before now)
