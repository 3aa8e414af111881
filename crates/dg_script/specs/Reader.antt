-- What the reader has at a line, and what it takes there.
use Rattle.std.specs.Prelude.{◌≡◌, ℕ, List, [], ◌∷◌, ◌++◌, Option, Some, None, Result, Ok, Err}
use Rattle.dg_script.specs.declared.command.ScriptCode.{ScriptCode}
use Rattle.dg_base.specs.declared.refusal.Refusal.{Refusal}
use Rattle.dg_base.specs.declared.refusal.Refusal.TheVariants.{Because, NoMemory}
use Rattle.dg_base.specs.Refusal.{Gives}
use Rattle.dg_script.specs.declared.command.BadLine.{BadLine}
use Rattle.dg_script.specs.declared.command.StepWords.{StepWords}
use Rattle.dg_script.specs.declared.command.Act.TheVariants as act
use Rattle.dg_script.specs.declared.command.Command.{Command}
use Rattle.dg_script.specs.declared.acts.Row.{Row}
use Rattle.dg_script.specs.declared.acts.Row.TheVariants as row
use Rattle.dg_script.specs.declared.reader.Block.{Block}
use Rattle.dg_script.specs.declared.reader.Reader.{Reader}
use Rattle.dg_script.specs.Script.{Rest, rest_by}

-- the line of the open block
abbrev pub line_of : Option Block → Option ℕ
line_of None = None
line_of (Some block) = Some block.line

-- the open block with the steps that are left of it, and the commands behind it
abbrev pub behind_block : Option Block → List StepWords → List Command → List Command
behind_block None steps commands = commands
behind_block (Some block) steps commands = record { line = block.line; act = act.Block (block.steps ++ steps) } ∷ commands

-- what is read, and then the rest
abbrev pub joined : Reader → Rest → Result (List Command) BadLine
joined reader (Err bad) = Err bad
joined reader (Ok found) = Ok (reader.commands ++ behind_block reader.block found.0 found.1)

abbrev pub closed : Option Block → List Command
closed block = behind_block block [] []

abbrev pub step_taken : List Command → ℕ → StepWords → Option Block → Reader
step_taken commands number step None = record { commands = commands ++ record { line = number; act = act.Step step } ∷ []; block = None }
step_taken commands number step (Some block) =
    record { commands = commands; block = Some (record { line = block.line; steps = block.steps ++ step ∷ [] }) }

-- what is read behind a row
abbrev pub taken : Reader → ℕ → Row → Reader
taken reader number row.Nothing = reader
taken reader number (row.Step step) = step_taken reader.commands number step reader.block
taken reader number row.Begin =
    record { commands = reader.commands ++ closed reader.block; block = Some (record { line = number; steps = [] }) }
taken reader number row.End = record { commands = reader.commands ++ closed reader.block; block = None }
taken reader number (row.Act a) =
    record { commands = (reader.commands ++ closed reader.block) ++ record { line = number; act = a } ∷ []; block = None }

-- the refusal of a line is the script's
abbrev pub at_line : ℕ → Refusal ScriptCode → Refusal BadLine
at_line number (Because code) = Because (record { line = number; code = code })
at_line number NoMemory = NoMemory

-- the line is read, or it is why the script isn't, whatever follows it
abbrev pub Reads : Result (Unit {0}) (Refusal BadLine) → Reader → Reader → ℕ → Result Row ScriptCode → Type 0
Reads (Ok _) old new number read = (rest : Option ℕ → Rest) → joined new (rest (line_of new.block)) ≡ joined old (rest_by number (line_of old.block) read rest)
Reads (Err refusal) old new number read =
    (rest : Option ℕ → Rest) → Gives {X = List Command} (λ commands. commands) (Err refusal) (joined old (rest_by number (line_of old.block) read rest))
