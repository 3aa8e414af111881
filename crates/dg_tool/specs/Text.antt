-- The printed texts, beside those of answers.
use Rattle.std.specs.Prelude.{ℕ, List, [], ◌∷◌, ◌++◌, codes}
use Rattle.std.specs.Fmt.{decimal}
use Rattle.dg_base.specs.declared.step.TxCode.{TxCode}
use Rattle.dg_base.specs.declared.step.TxCode.TheVariants as tx
use Rattle.dg_bind.specs.declared.refusal.Missing.{Missing}
use Rattle.dg_bind.specs.declared.refusal.Missing.TheVariants as missing
use Rattle.dg_script.specs.declared.command.ScriptCode.{ScriptCode}
use Rattle.dg_script.specs.declared.command.ScriptCode.TheVariants as bad
use Rattle.dg_sources.specs.declared.bad.BadCode.{BadCode}
use Rattle.dg_sources.specs.declared.bad.BadCode.TheVariants as place
use Rattle.dg_sources.specs.declared.bad.BadPlace.{BadPlace}

abbrev pub ok_text : List ℕ
ok_text = codes "ok"

abbrev pub empty_text : List ℕ
empty_text = codes "Empty"

abbrev pub no_name_text : List ℕ
no_name_text = codes "NoName"

abbrev pub no_label_text : List ℕ
no_label_text = codes "NoLabel"

abbrev pub line_full_text : List ℕ
line_full_text = codes "LineFull"

abbrev pub nothing_to_undo_text : List ℕ
nothing_to_undo_text = codes "NothingToUndo"

abbrev pub nothing_to_redo_text : List ℕ
nothing_to_redo_text = codes "NothingToRedo"

abbrev pub pin_used_text : List ℕ
pin_used_text = codes "PinUsed"

abbrev pub pins_full_text : List ℕ
pins_full_text = codes "PinsFull"

-- a pin that is taken, by the number of its revision
abbrev pub pinned_text : ℕ → List ℕ
pinned_text number = codes "pinned " ++ decimal number

abbrev pub no_pin_text : List ℕ
no_pin_text = codes "NoPin"

-- the work of a script: productions, entries that were kept, and entries that came late
abbrev pub stats_text : ℕ → ℕ → ℕ → List ℕ
stats_text made kept late = codes "work " ++ decimal made ++ codes " kept " ++ decimal kept ++ codes " late " ++ decimal late

-- how many files were written
abbrev pub built_files_text : ℕ → List ℕ
built_files_text count = codes "built " ++ decimal count

-- why a transaction is refused
abbrev pub missing_text : Missing → List ℕ
missing_text missing.NoName = no_name_text
missing_text missing.NoLabel = no_label_text

abbrev pub code_text : TxCode → List ℕ
code_text tx.TooManyNodes = codes "TooManyNodes"
code_text tx.TooManyArcs = codes "TooManyArcs"
code_text tx.NoNode = codes "NoNode"
code_text tx.NotProperty = codes "NotProperty"
code_text tx.ValueType = codes "ValueType"
code_text tx.NotOutput = codes "NotOutput"
code_text tx.NotInput = codes "NotInput"
code_text tx.ArcType = codes "ArcType"
code_text tx.NoArc = codes "NoArc"

-- a refusal, with the number of the step, from 1
abbrev pub refused_text : ℕ → List ℕ → List ℕ
refused_text number why = codes "refused step " ++ decimal number ++ codes " " ++ why

abbrev pub bad_code_text : ScriptCode → List ℕ
bad_code_text bad.Utf8 = codes "Utf8"
bad_code_text bad.TooLong = codes "TooLong"
bad_code_text bad.Value = codes "Value"
bad_code_text bad.Word = codes "Word"
bad_code_text bad.InBlock = codes "InBlock"
bad_code_text bad.NoBlock = codes "NoBlock"
bad_code_text bad.Arity = codes "Arity"
bad_code_text bad.OpenBlock = codes "OpenBlock"

-- a bad line of the script, by its number and its code
abbrev pub bad_line_text : ℕ → ScriptCode → List ℕ
bad_line_text line c = codes "script line " ++ decimal line ++ codes " " ++ bad_code_text c

-- what is wrong at a place of a file
abbrev pub place_code_text : BadCode → List ℕ
place_code_text place.Gone = codes "Gone"
place_code_text place.Utf8 = codes "Utf8"
place_code_text place.Token = codes "Token"
place_code_text place.Nesting = codes "Nesting"
place_code_text place.Unclosed = codes "Unclosed"
place_code_text place.Missing = codes "Missing"
place_code_text place.Form = codes "Form"
place_code_text place.Absent = codes "Absent"
place_code_text place.Data = codes "Data"
place_code_text place.Recursive = codes "Recursive"

-- the file that is formatted, by its first bad place
abbrev pub bad_file_text : ℕ → BadCode → List ℕ
bad_file_text line c = codes "file line " ++ decimal line ++ codes " " ++ place_code_text c

-- a bad place of a project
abbrev pub bad_place_text : BadPlace → List ℕ
bad_place_text p = codes "bad " ++ p.path ++ codes " " ++ decimal p.line ++ codes " " ++ place_code_text p.code

-- what a project has: its nodes, its arcs and its bad places
abbrev pub size_text : ℕ → ℕ → ℕ → List ℕ
size_text nodes arcs bad = codes "nodes " ++ decimal nodes ++ codes " arcs " ++ decimal arcs ++ codes " bad " ++ decimal bad

-- all that is printed has at most 256 MiB, line feeds included
abbrev pub max_text : ℕ
max_text = 268435456

-- a line of the output: the number of the script's line, a colon, a blank and the text
abbrev pub line_of : ℕ → List ℕ → List ℕ
line_of number text = decimal number ++ codes ": " ++ text ++ 10 ∷ []
