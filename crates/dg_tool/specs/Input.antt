-- What a run reads of the tree of files: the script, and the project that it begins with.
use Rattle.std.specs.Prelude.{◌≡◌, ℕ, List, ◌++◌, cond, nat_lt, Result, Ok, Err, codes, length}
use Rattle.dg_text.specs.Quoted.{quoted}
use Rattle.dg_base.specs.declared.refusal.Refusal.{Refusal}
use Rattle.dg_base.specs.declared.refusal.Refusal.TheVariants as refusal
use Rattle.dg_base.specs.Refusal.{and_then}
use Rattle.dg_base.specs.Tables.{Tables}
use Rattle.dg_files.specs.Tree.{Tree, bytes_at, got_of}
use Rattle.dg_files.specs.declared.files.Got.{Got}
use Rattle.dg_files.specs.declared.files.Got.TheVariants as got
use Rattle.dg_script.specs.declared.command.Command.{Command}
use Rattle.dg_script.specs.declared.command.BadLine.{BadLine}
use Rattle.dg_script.specs.Script.{lines_in, script_in}
use Rattle.dg_tool.specs.declared.halt.Halt.{Halt}
use Rattle.dg_tool.specs.declared.halt.Halt.TheVariants as halt
use Rattle.dg_tool.specs.declared.halt.Limit.{Limit}
use Rattle.dg_tool.specs.declared.halt.Limit.TheVariants as limit
use Rattle.dg_sources.specs.declared.bad.BadPlace.{BadPlace}
use Rattle.dg_play.specs.Play.{State}
use Rattle.dg_tool.specs.Project.{Project, loaded}

-- a file has at most 1 MiB, and a script 65,536 lines
abbrev pub max_script : ℕ
max_script = 1048576

abbrev pub max_lines : ℕ
max_lines = 65536

-- the bytes of a file: they are there, and not too many
abbrev pub whole : Limit → Got → Result (List ℕ) Halt
whole most got.Absent = Err halt.NoInput
whole most got.Longer = Err (halt.TooLarge most)
whole most (got.Whole bytes) = Ok bytes

abbrev pub bytes_of : Tree → Limit → List ℕ → Result (List ℕ) Halt
bytes_of tree most path = whole most (got_of (bytes_at tree path) max_script)

-- its commands: the number of its lines stands before the grammar
abbrev pub in_grammar : Result (List Command) BadLine → Result (List Command) Halt
in_grammar (Ok commands) = Ok commands
in_grammar (Err bad) = Err (halt.BadLine bad.line bad.code)

abbrev pub commands_in : List ℕ → Result (List Command) Halt
commands_in bytes = cond (nat_lt max_lines (length (lines_in bytes))) (Err (halt.TooLarge limit.Lines)) (in_grammar (script_in bytes))

-- the commands of the script at a path
abbrev pub script_of : Tree → List ℕ → Result (List Command) Halt
script_of tree path = and_then (bytes_of tree limit.Script path) commands_in

-- a build is the run of a script of one line
abbrev pub build_script : List ℕ → List ℕ
build_script path = codes "build " ++ quoted path

abbrev pub build_cache : ℕ
build_cache = 4096

-- what a call that reads files answers: what is given by the tree that they tell. Where a call of the
-- files failed, or memory was refused, nothing is said
abbrev pub Tells : {X Y : Type 0} → (X → Y) → Result X (Refusal Halt) → Result Y Halt → Type 0
Tells view (Ok x) given = given ≡ Ok (view x)
Tells view (Err (refusal.Because halt.FileFault)) given = Unit {0}
Tells view (Err (refusal.Because h)) given = given ≡ Err h
Tells view (Err refusal.NoMemory) given = Unit {0}

-- what a run starts with: the commands, the state before the first, the bad places of the project and how many files
-- of it were read, and for how many entries the shared cache has room
pub record Start : Type 0 where
  pub commands : List Command
  pub begin : State
  pub bad : List BadPlace
  pub file_count : ℕ
  pub capacity : ℕ

abbrev pub start_with : List Command → ℕ → Project → Start
start_with commands capacity p = record { commands = commands; begin = p.begin; bad = p.bad; file_count = p.file_count; capacity = capacity }

-- the script is read before the project
abbrev pub start_of : Tables → Tree → ℕ → Result (List Command) Halt → Result Start Halt
start_of t tree capacity script = and_then script (λ commands. and_then (loaded t tree) (λ p. Ok (start_with commands capacity p)))
