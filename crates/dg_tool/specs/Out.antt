-- What the tool does for a tree of files and the words of its command line. What it prints of answers and edits has
-- no cache and no worker; of the cache it tells the work alone, where the words ask for it.
use Rattle.std.specs.Prelude.{ℕ, List, [], ◌∷◌, ◌++◌, ◌&&◌, Bool, cond, nat_lt, not, true, false, Result, Ok, Err, codes, length, map, flat_map}
use Rattle.dg_base.specs.Tables.{Tables}
use Rattle.dg_base.specs.Graph.{Graph, empty}
use Rattle.dg_base.specs.Refusal.{and_then}
use Rattle.dg_base.specs.declared.answer.Answer.{Answer}
use Rattle.dg_base.specs.declared.answer.Answer.TheVariants as answer
use Rattle.dg_base.specs.Value.{value_at}
use Rattle.dg_files.specs.Tree.{Tree}
use Rattle.dg_deeds.specs.declared.deed.Deed.{Deed}
use Rattle.dg_deeds.specs.declared.deed.Deed.TheVariants.{Write, Put}
use Rattle.dg_deeds.specs.Deeds.{lines_in}
use Rattle.dg_deeds.specs.Printed.{text_of}
use Rattle.dg_build.specs.declared.target.Target.{Target}
use Rattle.dg_build.specs.Targets.{targets}
use Rattle.dg_report.specs.Text.{answer_text}
use Rattle.dg_tool.specs.declared.status.Status.{Status}
use Rattle.dg_tool.specs.declared.status.Status.TheVariants as status
use Rattle.dg_tool.specs.declared.halt.Halt.{Halt}
use Rattle.dg_tool.specs.declared.halt.Halt.TheVariants as halt
use Rattle.dg_tool.specs.declared.halt.Limit.TheVariants as limit
use Rattle.dg_tool.specs.declared.start.Telling.{Telling}
use Rattle.dg_tool.specs.declared.start.Telling.TheVariants.{Lines, Sums}
use Rattle.dg_words.specs.declared.task.Task.{Task}
use Rattle.dg_words.specs.declared.task.Task.TheVariants.{Run, Check, Build, Gen, Format}
use Rattle.dg_words.specs.declared.task.Usage.{Usage}
use Rattle.dg_words.specs.Tasks.{task_in}
use Rattle.dg_tool.specs.Text.{ok_text, empty_text, no_name_text, no_label_text, missing_text, code_text, refused_text, bad_place_text, size_text, line_full_text, nothing_to_undo_text, nothing_to_redo_text, pin_used_text, pins_full_text, pinned_text, no_pin_text, built_files_text, stats_text, max_text, line_of}
use Rattle.dg_tool.specs.Halts.{status_of, halt_lines, error_line}
use Rattle.dg_line.specs.Revisions.{Seen}
use Rattle.dg_editor.specs.Machine.{revisions}
use Rattle.dg_asks.specs.Asks.{Ask}
use Rattle.dg_play.specs.Play.{Reply, Done, Empty, LineFull, NothingToUndo, NothingToRedo, NoName, NoLabel, Misses, Refused, PinUsed, PinsFull, PinnedAt, NoPin, Answers, Builds, Line, Played, graph_now, played}
use Rattle.dg_play.specs.Work.{Work, work_of}
use Rattle.dg_play.specs.Desk.{answers_in}
use Rattle.dg_sources.specs.declared.bad.BadPlace.{BadPlace}
use Rattle.dg_gen.specs.Project.{project_files, project_script}
use Rattle.dg_sums.specs.Sums.{sum_lines}
use Rattle.dg_tool.specs.Project.{Project, loaded}
use Rattle.dg_tool.specs.Input.{Start, build_cache, build_script, commands_in, script_of, start_of}
use Rattle.dg_tool.specs.Format.{formatted_in}

-- all that a run does: its status, the files that it writes and the lines that it prints, in order, the last graph,
-- the revisions in order, and the answers that were asked for
pub record Out : Type 0 where
  pub status : Status
  pub deeds : List Deed
  pub last : Graph
  pub revisions : List Seen
  pub asks : List Ask

-- nothing but these lines
abbrev pub only_lines : Status → List (List ℕ) → Out
only_lines s lines = record { status = s; deeds = map Put lines; last = empty; revisions = []; asks = [] }

-- a run that ends before a script is played
abbrev pub halted : Halt → Out
halted h = only_lines (status_of h) (halt_lines h)

-- words that say no task
abbrev pub usage_lines : List (List ℕ)
usage_lines = error_line (codes "usage") ∷ []

abbrev pub usage : Out
usage = only_lines status.Usage usage_lines

-- the text of an answer: the value of the endpoint by plain evaluation
abbrev pub ask_text : Tables → List (List ℕ) → Ask → List ℕ
ask_text t names a = answer_text (value_at t a.revision.graph a.at) names

-- the text of a build: how many files a good value is built as, else the answer
abbrev pub built_text : Answer → List (List ℕ) → List ℕ
built_text (answer.Good d) names = built_files_text (length (targets d names))
built_text a names = answer_text a names

abbrev pub reply_text : Tables → List (List ℕ) → Reply → List ℕ
reply_text t names Done = ok_text
reply_text t names Empty = empty_text
reply_text t names LineFull = line_full_text
reply_text t names NothingToUndo = nothing_to_undo_text
reply_text t names NothingToRedo = nothing_to_redo_text
reply_text t names NoName = no_name_text
reply_text t names NoLabel = no_label_text
reply_text t names (Misses step missing) = refused_text step (missing_text missing)
reply_text t names (Refused step code) = refused_text step (code_text code)
reply_text t names PinUsed = pin_used_text
reply_text t names PinsFull = pins_full_text
reply_text t names (PinnedAt number) = pinned_text number
reply_text t names NoPin = no_pin_text
reply_text t names (Answers a) = ask_text t names a
reply_text t names (Builds a) = built_text (value_at t a.revision.graph a.at) names

-- the build files of a value: each stands below the folder of all build files, by its own path
abbrev pub build_folder : List ℕ
build_folder = codes "/build/default"

abbrev pub write_of : Target → Deed
write_of target = Write (build_folder ++ target.path) target.bytes

abbrev pub built_deeds : Answer → List (List ℕ) → List Deed
built_deeds (answer.Good d) names = map write_of (targets d names)
built_deeds a names = []

-- what a command writes
abbrev pub reply_deeds : Tables → List (List ℕ) → Reply → List Deed
reply_deeds t names (Builds a) = built_deeds (value_at t a.revision.graph a.at) names
reply_deeds t names _ = []

abbrev pub line_text : Tables → List (List ℕ) → Line → List ℕ
line_text t names line = line_of line.number (reply_text t names line.reply)

-- the last line, where the words ask for it: the work that was done
abbrev pub stats_lines : Bool → Work → List (List ℕ)
stats_lines false w = []
stats_lines true w = (stats_text w.made w.kept w.late ++ 10 ∷ []) ∷ []

-- a line of the play: what its command writes, and then the line
abbrev pub line_deeds : Tables → List (List ℕ) → Line → List Deed
line_deeds t names line = reply_deeds t names line.reply ++ Put (line_text t names line) ∷ []

abbrev pub is_large : List (List ℕ) → Bool
is_large lines = nat_lt max_text (length (text_of lines))

abbrev pub done : Played → List Deed → Out
done p deeds = record {
  status = status.Done;
  deeds = deeds;
  last = graph_now p.state;
  revisions = revisions p.state.editor;
  asks = answers_in p.lines;
}

-- what is printed with these lines, where they aren't too large together
abbrev pub unless_large : {X : Type 0} → List (List ℕ) → X → Result X Halt
unless_large lines x = cond (is_large lines) (Err (halt.TooLarge limit.Text)) (Ok x)

abbrev pub fitting : List Deed → Result (List Deed) Halt
fitting deeds = unless_large (lines_in deeds) deeds

abbrev pub out_of_fitting : Played → Result (List Deed) Halt → Out
out_of_fitting p (Ok deeds) = done p deeds
out_of_fitting p (Err h) = halted h

-- a line for each bad place of the project
abbrev pub bad_line : BadPlace → List ℕ
bad_line p = bad_place_text p ++ 10 ∷ []

abbrev pub bad_lines : List BadPlace → List (List ℕ)
bad_lines bad = map bad_line bad

-- a script that was played. Its lines are printed with the names of the end: a label's name, once given,
-- never changes, and what is in a graph was named before
abbrev pub played_deeds : Tables → Bool → List BadPlace → Played → Work → List Deed
played_deeds t stats bad p w = map Put (bad_lines bad) ++ (flat_map (line_deeds t p.state.names) p.lines ++ map Put (stats_lines stats w))

abbrev pub out_of_played : Tables → Bool → List BadPlace → Played → Work → Out
out_of_played t stats bad p w = out_of_fitting p (fitting (played_deeds t stats bad p w))

abbrev pub played_from : Tables → Start → Played
played_from t s = played t s.commands s.begin

abbrev pub work_from : Tables → Start → Work
work_from t s = work_of t s.capacity s.commands s.begin

abbrev pub out_of_start : Tables → Bool → Result Start Halt → Out
out_of_start t stats (Ok s) = out_of_played t stats s.bad (played_from t s) (work_from t s)
out_of_start t stats (Err h) = halted h

-- lines alone, and nothing else is done
abbrev pub out_of_text : Result (List (List ℕ)) Halt → Out
out_of_text (Ok lines) = only_lines status.Done lines
out_of_text (Err h) = halted h

-- a project that is checked: its bad places, and what it has
abbrev pub size_line : Graph → ℕ → List ℕ
size_line g bad = size_text (length g.nodes) (length g.arcs) bad ++ 10 ∷ []

abbrev pub checked_lines : Project → List (List ℕ)
checked_lines p = bad_lines p.bad ++ size_line (graph_now p.begin) (length p.bad) ∷ []

abbrev pub checked : Tables → Tree → Result (List (List ℕ)) Halt
checked t tree = and_then (loaded t tree) (λ p. unless_large (checked_lines p) (checked_lines p))

-- what a task that plays the project starts with
abbrev pub start_of_run : Tables → Tree → List ℕ → ℕ → Result Start Halt
start_of_run t tree script cache = start_of t tree cache (script_of tree script)

abbrev pub start_of_build : Tables → Tree → List ℕ → Result Start Halt
start_of_build t tree path = start_of t tree build_cache (commands_in (build_script path))

-- the project that is made from a seed, and its script: no file is read
abbrev pub start_of_gen : Tables → ℕ → ℕ → ℕ → Result Start Halt
start_of_gen t seed size cache = start_of t (project_files seed size) cache (commands_in (project_script seed size))

-- what it comes to is told in four lines, and none of its own: no line of the script, and no build file
abbrev pub gen_lines : Tables → Start → List (List ℕ)
gen_lines t s = sum_lines t s.file_count (length (graph_now s.begin).nodes) (length (graph_now s.begin).arcs) s.commands (played_from t s).lines (played_from t s).state.names

abbrev pub out_of_gen : Tables → Result Start Halt → Out
out_of_gen t (Ok s) = done (played_from t s) (map Put (gen_lines t s))
out_of_gen t (Err h) = halted h

-- ---- what words come to

-- no task; lines that are told; or a play from a start, and how it is told
pub data Doing : Type 0 where
  Misuse : Doing
  Tells : Result (List (List ℕ)) Halt → Doing
  Plays : Telling → Result Start Halt → Doing

-- a script is played by workers or without, which makes no difference here
abbrev pub doing_of : Tables → Tree → Task → Doing
doing_of t tree (Run script workers cache stats) = Plays (Lines stats) (start_of_run t tree script cache)
doing_of t tree (Format path) = Tells (formatted_in tree path)
doing_of t tree Check = Tells (checked t tree)
doing_of t tree (Build path workers) = Plays (Lines false) (start_of_build t tree path)
doing_of t tree (Gen seed size workers cache) = Plays Sums (start_of_gen t seed size cache)

abbrev pub doing_in : Tables → Tree → Result Task Usage → Doing
doing_in t tree (Ok task) = doing_of t tree task
doing_in t tree (Err e) = Misuse

abbrev pub out_of_play : Tables → Telling → Result Start Halt → Out
out_of_play t (Lines stats) r = out_of_start t stats r
out_of_play t Sums r = out_of_gen t r

abbrev pub out_of_doing : Tables → Doing → Out
out_of_doing t Misuse = usage
out_of_doing t (Tells r) = out_of_text r
out_of_doing t (Plays how r) = out_of_play t how r

abbrev pub out_of : Tables → Tree → List (List ℕ) → Out
out_of t tree words = out_of_doing t (doing_in t tree (task_in words))

-- ---- kinds of words

-- by how many workers a play may be done
abbrev pub workers_in : Result Task Usage → ℕ
workers_in (Ok (Run script workers cache stats)) = workers
workers_in (Ok (Build path workers)) = workers
workers_in (Ok (Gen seed size workers cache)) = workers
workers_in (Ok _) = 0
workers_in (Err e) = 0

-- whether they ask for a line on the work
abbrev pub stats_in : Result Task Usage → Bool
stats_in (Ok (Run script workers cache stats)) = stats
stats_in (Ok _) = false
stats_in (Err e) = false

-- whether workers evaluate what a play asks for; a line on the work is on that of the play alone
abbrev pub is_crewed : Result Task Usage → Bool
is_crewed w = nat_lt 0 (workers_in w) && not (stats_in w)

-- tasks that write nothing
abbrev pub WritesNothing : Result Task Usage → Type 0
WritesNothing (Ok Check) = Unit {0}
WritesNothing (Ok (Format path)) = Unit {0}
WritesNothing (Ok (Gen seed size workers cache)) = Unit {0}
WritesNothing (Ok _) = ⊥
WritesNothing (Err e) = Unit {0}
