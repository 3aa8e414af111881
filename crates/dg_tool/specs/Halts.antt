-- How a run ends, and what ends it before a line of its script is put.
use Rattle.std.specs.Prelude.{ℕ, Bool, true, false, List, [], ◌∷◌, ◌++◌, Option, None, codes}
use Rattle.dg_deeds.specs.declared.deed.Stop.{Stop}
use Rattle.dg_deeds.specs.declared.deed.Stop.TheVariants as stop
use Rattle.dg_tool.specs.declared.status.Status.{Status}
use Rattle.dg_tool.specs.declared.status.Status.TheVariants as status
use Rattle.dg_tool.specs.declared.halt.Halt.{Halt}
use Rattle.dg_tool.specs.declared.halt.Halt.TheVariants as halt
use Rattle.dg_tool.specs.declared.halt.Limit.{Limit}
use Rattle.dg_tool.specs.declared.halt.Limit.TheVariants as limit
use Rattle.dg_tool.specs.Text.{bad_line_text, bad_file_text}

-- the number that a program ends with
abbrev pub code_of : Status → ℕ
code_of status.Done = 0
code_of status.Usage = 1
code_of status.NoInput = 2
code_of status.Syntax = 3
code_of status.FileFault = 4
code_of status.SinkFault = 5
code_of status.NoMemory = 6
code_of status.TooLarge = 7

-- the statuses that a call of the outside, or want of memory, may end a run with; each other one is due
abbrev pub IsDue : Status → Type 0
IsDue status.FileFault = ⊥
IsDue status.SinkFault = ⊥
IsDue status.NoMemory = ⊥
IsDue _ = Unit {0}

-- whether all is done with this status and this desk: that of a script that was played; words that say no task have none
abbrev pub is_end : {D : Type 0} → Status → Option D → Bool
is_end status.Done desk = true
is_end status.Usage None = true
is_end _ _ = false

-- the status of a run that is cut off
abbrev pub cut_status : Stop → Status
cut_status stop.FileFault = status.FileFault
cut_status stop.SinkFault = status.SinkFault
cut_status stop.NoMemory = status.NoMemory

abbrev pub status_of : Halt → Status
status_of halt.NoInput = status.NoInput
status_of (halt.BadLine line code) = status.Syntax
status_of (halt.BadFile line code) = status.Syntax
status_of (halt.TooLarge what) = status.TooLarge
status_of halt.FileFault = status.FileFault

-- the names of the limits
abbrev pub limit_text : Limit → List ℕ
limit_text limit.Script = codes "script"
limit_text limit.Lines = codes "lines"
limit_text limit.Files = codes "files"
limit_text limit.File = codes "file"
limit_text limit.Total = codes "total"
limit_text limit.Nodes = codes "nodes"
limit_text limit.Arcs = codes "arcs"
limit_text limit.Text = codes "text"

abbrev pub error_line : List ℕ → List ℕ
error_line what = codes "error: " ++ what ++ 10 ∷ []

-- the one line that is printed, but for a call of the files that failed
abbrev pub halt_lines : Halt → List (List ℕ)
halt_lines halt.NoInput = error_line (codes "no input") ∷ []
halt_lines (halt.BadLine line code) = error_line (bad_line_text line code) ∷ []
halt_lines (halt.BadFile line code) = error_line (bad_file_text line code) ∷ []
halt_lines (halt.TooLarge what) = error_line (codes "too large " ++ limit_text what) ∷ []
halt_lines halt.FileFault = []
