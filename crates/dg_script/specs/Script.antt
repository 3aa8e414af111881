-- Which bytes are which script, and which line of any others is the first bad one.
use Rattle.std.specs.Prelude.{ℕ, ◌+◌, List, [], ◌∷◌, Bool, false, cond, ◌==◌, nat_lt, min, Option, Some, None, is_some, Result, Ok, Err, length}
use Rattle.std.specs.List.{slice_split}
use Rattle.std.specs.Str.{chars, is_utf8}
use Rattle.dg_script.specs.declared.command.ScriptCode.{ScriptCode}
use Rattle.dg_script.specs.declared.command.ScriptCode.TheVariants as code
use Rattle.dg_script.specs.declared.command.BadLine.{BadLine}
use Rattle.dg_script.specs.declared.command.StepWords.{StepWords}
use Rattle.dg_script.specs.declared.command.Act.{Act}
use Rattle.dg_script.specs.declared.command.Act.TheVariants as act
use Rattle.dg_script.specs.declared.command.Command.{Command}
use Rattle.dg_script.specs.declared.acts.Row.{Row}
use Rattle.dg_script.specs.declared.acts.Row.TheVariants as row
use Rattle.dg_script.specs.declared.words.Word.{Word}
use Rattle.dg_script.specs.Words.{is_blank, words_in}
use Rattle.dg_script.specs.Acts.{row_in}

-- lines end at line feeds; what stands behind the last one is a line where it isn't empty
abbrev pub is_line_feed : ℕ → Bool
is_line_feed b = b == 10

abbrev pub without_empty_end : List (List ℕ) → List (List ℕ)
without_empty_end [] = []
without_empty_end (l ∷ []) = cond (length l == 0) [] (l ∷ [])
without_empty_end (l ∷ m ∷ ls) = l ∷ without_empty_end (m ∷ ls)

abbrev pub lines_in : List ℕ → List (List ℕ)
lines_in bytes = without_empty_end (slice_split is_line_feed bytes)

-- one carriage return at a line's end is dropped
abbrev pub without_return : List ℕ → List ℕ
without_return [] = []
without_return (b ∷ []) = cond (b == 13) [] (b ∷ [])
without_return (b ∷ c ∷ bs) = b ∷ without_return (c ∷ bs)

-- the first character that is no blank is `#`
abbrev pub is_comment : List ℕ → Bool
is_comment [] = false
is_comment (b ∷ bs) = cond (is_blank b) (is_comment bs) (b == 35)

abbrev pub most_bytes : ℕ
most_bytes = 65536

-- what a line is, inside a block or outside
abbrev pub row_of_words : Bool → Option (List Word) → Result Row ScriptCode
row_of_words inside None = Err code.Value
row_of_words inside (Some words) = row_in inside words

abbrev pub row_of_text : Bool → List ℕ → Result Row ScriptCode
row_of_text inside line =
    cond (nat_lt most_bytes (length line)) (Err code.TooLong)
    (cond (is_comment line) (Ok row.Nothing) (row_of_words inside (words_in (chars line))))

abbrev pub row_at : Bool → List ℕ → Result Row ScriptCode
row_at inside line = cond (is_utf8 line) (row_of_text inside line) (Err code.Utf8)

-- the steps that are left of an open block, and the commands behind it
abbrev pub Rest : Type 0
Rest = Result (List StepWords × List Command) BadLine

-- a command outside a block
abbrev pub command_before : ℕ → Act → Rest → Rest
command_before line a (Err bad) = Err bad
command_before line a (Ok found) = Ok ([], record { line = line; act = a } ∷ found.1)

-- a step of a block
abbrev pub step_before : StepWords → Rest → Rest
step_before step (Err bad) = Err bad
step_before step (Ok found) = Ok (step ∷ found.0, found.1)

-- the steps up to the `end` are one command
abbrev pub block_before : ℕ → Rest → Rest
block_before line (Err bad) = Err bad
block_before line (Ok found) = Ok ([], record { line = line; act = act.Block found.0 } ∷ found.1)

-- behind the `end` no step is left
abbrev pub outside : Rest → Rest
outside (Err bad) = Err bad
outside (Ok found) = Ok ([], found.1)

-- a line's number, which stays where it would pass the numbers of 32 bits
abbrev pub next_line : ℕ → ℕ
next_line line = min (line + 1) 4294967295

-- a step, where a block is open if it has a number, which is its line's
abbrev pub step_at : ℕ → Option ℕ → StepWords → (Option ℕ → Rest) → Rest
step_at line None step rest = command_before line (act.Step step) (rest None)
step_at line (Some begun) step rest = step_before step (rest (Some begun))

-- a line, and then those behind it
abbrev pub rest_by : ℕ → Option ℕ → Result Row ScriptCode → (Option ℕ → Rest) → Rest
rest_by line block (Err c) rest = Err (record { line = line; code = c })
rest_by line block (Ok row.Nothing) rest = rest block
rest_by line block (Ok row.Begin) rest = block_before line (rest (Some line))
rest_by line block (Ok row.End) rest = outside (rest None)
rest_by line block (Ok (row.Step step)) rest = step_at line block step rest
rest_by line block (Ok (row.Act a)) rest = command_before line a (rest None)

abbrev pub ended : Option ℕ → Rest
ended None = Ok ([], [])
ended (Some begun) = Err (record { line = begun; code = code.OpenBlock })

abbrev pub rest_of : List (List ℕ) → ℕ → Option ℕ → Rest
rest_of [] line block = ended block
rest_of (l ∷ ls) line block = rest_by line block (row_at (is_some block) (without_return l)) (rest_of ls (next_line line))

abbrev pub commands_of : Rest → Result (List Command) BadLine
commands_of (Err bad) = Err bad
commands_of (Ok found) = Ok found.1

-- the commands of a script, or its first bad line and the first code that fits it
abbrev pub script_in : List ℕ → Result (List Command) BadLine
script_in bytes = commands_of (rest_of (lines_in bytes) 1 None)
