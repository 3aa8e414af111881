-- The records of the code as those of the definitions.
use Rattle.std.specs.Prelude.{◌≡◌, ◌≤◌, ℕ, List, [], ◌∷◌, ◌++◌, Bool, true, false, Option, Some, None, Result, Ok, Err, length, map, flat_map, refl}
use Rattle.std.specs.Coded.{Coded, code_by, coded×, coded_ℕ, coded_list, coded_option}
use Rattle.dg_base.specs.Tables.{Tables}
use Rattle.dg_base.specs.Value.{value_at}
use Rattle.dg_deeds.specs.declared.deed.Deed.{Deed}
use Rattle.dg_deeds.specs.declared.deed.Deed.TheVariants.{Put}
use Rattle.dg_asks.specs.Asks.{Ask, ask_code}
use Rattle.dg_editor.specs.Machine.{State as Editor}
use Rattle.dg_play.specs.declared.ending.Ending.{Ending}
use Rattle.dg_play.specs.declared.ending.WorkDone.{WorkDone}
use Rattle.dg_play.specs.declared.reply.Line.{Line as CodeLine}
use Rattle.dg_play.specs.Play.{Reply, Builds, graph_now}
use Rattle.dg_play.specs.Desk.{IsWorkOf}
use Rattle.dg_play.specs.Seen.{begun_by, graph_by, line_of, reply_of}
use Rattle.dg_words.specs.declared.task.Task.{Task}
use Rattle.dg_words.specs.declared.task.Usage.{Usage}
use Rattle.dg_words.specs.Paths.{usage as no_task}
use Rattle.dg_tool.specs.declared.project.Project.{Project as CodeProject}
use Rattle.dg_tool.specs.declared.halt.Halt.{Halt}
use Rattle.dg_tool.specs.declared.due.Output.{Output}
use Rattle.dg_tool.specs.declared.piece.Piece.{Piece}
use Rattle.dg_tool.specs.declared.start.Frame.{Frame}
use Rattle.dg_tool.specs.declared.start.Setting.{Setting}
use Rattle.dg_tool.specs.declared.start.Start.{Start as CodeStart}
use Rattle.dg_tool.specs.declared.start.Started.{Started}
use Rattle.dg_tool.specs.declared.start.Started.TheVariants as started
use Rattle.dg_tool.specs.declared.start.Telling.{Telling}
use Rattle.dg_tool.specs.declared.start.Telling.TheVariants.{Lines, Sums}
use Rattle.dg_tool.specs.Text.{stats_text}
use Rattle.dg_tool.specs.Project.{Project}
use Rattle.dg_tool.specs.Input.{Start}
use Rattle.dg_tool.specs.Out.{WritesNothing, built_deeds, line_text, played_from, stats_in, unless_large}

-- ---- what a play begins with

abbrev pub seen_project : {X : Type 0} → (X → Editor) → CodeProject X → Project
seen_project editor p = record { begin = begun_by editor p.begin; bad = p.bad; file_count = p.file_count }

abbrev pub seen_start : {X : Type 0} → (X → Editor) → CodeStart X → Start
seen_start editor s = record {
  commands = s.frame.commands;
  begin = begun_by editor s.begin;
  bad = s.frame.bad;
  file_count = s.frame.size.files;
  capacity = s.capacity;
}

-- the size that goes with a start is that of its graph
pub record IsSized {X : Type 0} (editor : X → Editor) (s : CodeStart X) : Type 0 where
  pub nodes : s.frame.size.nodes ≡ length (graph_by editor s.begin.game).nodes
  pub arcs : s.frame.size.arcs ≡ length (graph_by editor s.begin.game).arcs

-- it is played as a setting says
pub record IsSetStart {X : Type 0} (editor : X → Editor) (how : Setting) (s : CodeStart X) : Type 0 where
  pub capacity : s.capacity ≡ how.capacity
  pub workers : s.workers ≡ how.workers
  pub telling : s.frame.telling ≡ how.telling
  pub sized : IsSized editor s

abbrev pub IsSet : {X : Type 0} → (X → Editor) → Setting → Started X → Type 0
IsSet editor how (started.Plays s) = IsSetStart editor how s
IsSet editor how _ = ⊥

-- whether a line on the work is told
abbrev pub tells_work : Telling → Bool
tells_work (Lines stats) = stats
tells_work Sums = false

-- it is played as the words say
pub record IsFitStart {X : Type 0} (editor : X → Editor) (w : Result Task Usage) (s : CodeStart X) : Type 0 where
  pub some : 1 ≤ s.capacity
  pub workers : s.workers ≤ 16
  pub sums : WritesNothing w → s.frame.telling ≡ Sums
  pub work : tells_work s.frame.telling ≡ stats_in w
  pub sized : IsSized editor s

-- ---- lines with what is written before each

abbrev pub piece_code : Coded Piece
piece_code = code_by (Option Ask × List ℕ) (coded× (coded_option ask_code) (coded_list coded_ℕ)) (λ p. (p.built, p.line)) (λ q. record { built = q.0; line = q.1 }) (λ _. refl)

abbrev pub line_in : Piece → List ℕ
line_in p = p.line

abbrev pub plain : List ℕ → Piece
plain line = record { built = None; line = line }

abbrev pub ArePlain : List Piece → Type 0
ArePlain pieces = (lines : List (List ℕ)) × (pieces ≡ map plain lines)

abbrev pub all_plain : Result (List (List ℕ)) Halt → Result (List Piece) Halt
all_plain (Ok lines) = Ok (map plain lines)
all_plain (Err h) = Err h

abbrev pub fitting_pieces : List Piece → Result (List Piece) Halt
fitting_pieces pieces = unless_large (map line_in pieces) pieces

-- where nothing is played nothing is written
abbrev pub IsFit : {X : Type 0} → (X → Editor) → Result Task Usage → Started X → Type 0
IsFit editor w started.Usage = w ≡ no_task
IsFit editor w (started.Told pieces) = ArePlain pieces.items
IsFit editor w (started.Plays s) = IsFitStart editor w s

-- what a value that is built writes
abbrev pub built_of : Tables → List (List ℕ) → Option Ask → List Deed
built_of t names None = []
built_of t names (Some a) = built_deeds (value_at t a.revision.graph a.at) names

abbrev pub piece_deeds : Tables → List (List ℕ) → Piece → List Deed
piece_deeds t names p = built_of t names p.built ++ Put p.line ∷ []

abbrev pub deeds_in : Tables → List (List ℕ) → List Piece → List Deed
deeds_in t names pieces = flat_map (piece_deeds t names) pieces

-- the piece of a command's line
abbrev pub built_by : Reply → Option Ask
built_by (Builds a) = Some a
built_by _ = None

abbrev pub line_piece : Tables → List (List ℕ) → CodeLine Ask → Piece
line_piece t names l = record { built = built_by (reply_of l.reply); line = line_text t names (line_of l) }

-- all that a run does that is done
abbrev pub deeds_of : {D : Type 0} → Tables → Output D → List Deed
deeds_of t o = deeds_in t o.names o.pieces.items

-- ---- what a play ends with

-- the line on the work that was done, where it is asked for
abbrev pub stats_line_of : Bool → WorkDone → List (List ℕ)
stats_line_of false w = []
stats_line_of true w = (stats_text w.made w.kept w.late ++ 10 ∷ []) ∷ []

-- a play from a start has ended, and its frame is that of the start; the work is known where it is told
pub record Closes {D : Type 0} (t : Tables) (s : Start) (f : Frame) (e : Ending D) : Type 0 where
  pub commands : f.commands ≡ s.commands
  pub bad : f.bad ≡ s.bad
  pub files : f.size.files ≡ s.file_count
  pub nodes : f.size.nodes ≡ length (graph_now s.begin).nodes
  pub arcs : f.size.arcs ≡ length (graph_now s.begin).arcs
  pub lines : (played_from t s).lines ≡ map line_of e.lines.items
  pub names : (played_from t s).state.names ≡ e.names
  pub work : tells_work f.telling ≡ true → IsWorkOf t s.capacity s.commands s.begin e.work
