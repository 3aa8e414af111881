-- What the tokens of a text say: its fields, or the first place that can't be continued.
use Rattle.std.specs.Prelude.{ℕ, List, [], ◌∷◌, ◌++◌, ◌==◌, length, if◌then◌else◌, Option, Some, None, Result, Ok, Err}
use Rattle.std.specs.Str.{is_utf8}
use Rattle.dg_base.specs.Refusal.{and_then}
use Rattle.dg_ptext.specs.declared.refusal.TextCode.{TextCode}
use Rattle.dg_ptext.specs.declared.refusal.TextCode.TheVariants as code
use Rattle.dg_ptext.specs.declared.tree.Field.{Field}
use Rattle.dg_ptext.specs.declared.tree.Value.{Value}
use Rattle.dg_ptext.specs.declared.tree.Value.TheVariants.{Bare, Quoted, Message}
use Rattle.dg_ptext.specs.declared.state.Opened.{Opened}
use Rattle.dg_ptext.specs.declared.state.Phase.{Phase}
use Rattle.dg_ptext.specs.declared.state.Phase.TheVariants as phase
use Rattle.dg_ptext.specs.declared.state.State.{State}
use Rattle.dg_ptext.specs.declared.token.Token.{Token}
use Rattle.dg_ptext.specs.declared.token.Token.TheVariants as token
use Rattle.dg_text.specs.Names.{is_name}
use Rattle.dg_ptext.specs.Token.{Placed, tokens}

-- A state is the messages that are open, the outermost first, the fields of the innermost so far, and what stands
-- before the next token in it.

-- the innermost open message, and those around it
abbrev pub with_outer : Opened → Option (List Opened × Opened) → List Opened × Opened
with_outer outermost None = ([], outermost)
with_outer outermost (Some found) = (outermost ∷ found.0, found.1)

abbrev pub innermost : List Opened → Option (List Opened × Opened)
innermost [] = None
innermost (outermost ∷ inner) = Some (with_outer outermost (innermost inner))

-- the token on this line can't stand here
abbrev pub refused : ℕ → Result State TextCode
refused line = Err (code.Token line)

abbrev pub with_field : List Field → List ℕ → ℕ → Value → List Field
with_field fields name line value = fields ++ record { name = name; line = line; value = value } ∷ []

-- a closing brace ends the innermost message
abbrev pub closed : Option (List Opened × Opened) → List Field → ℕ → Result State TextCode
closed None fields here = refused here
closed (Some found) fields here =
    Ok (record { around = found.0; fields = with_field found.1.fields found.1.name found.1.line (Message fields); phase = phase.Behind })

-- a field that is whole
abbrev pub valued : List Opened → List Field → List ℕ → ℕ → Value → Result State TextCode
valued around fields name line value = Ok (record { around = around; fields = with_field fields name line value; phase = phase.Behind })

-- an opening brace begins a message, at most 64 of them in one another
abbrev pub opened : List Opened → List Field → List ℕ → ℕ → ℕ → Result State TextCode
opened around fields name line here =
    if length around == 64 then Err (code.Nesting here)
    else Ok (record { around = around ++ record { name = name; line = line; brace = here; fields = fields } ∷ []; fields = []; phase = phase.Before })

-- before a field: its name, or the brace that ends the message
abbrev pub before_field : List Opened → List Field → ℕ → Token → Result State TextCode
before_field around fields here (token.Word word) =
    if is_name word then Ok (record { around = around; fields = fields; phase = phase.Named word here }) else refused here
before_field around fields here token.Close = closed (innermost around) fields here
before_field around fields here _ = refused here

-- behind a field: a comma or semicolon, or what may stand before a field
abbrev pub behind_field : List Opened → List Field → ℕ → Token → Result State TextCode
behind_field around fields here token.Comma = Ok (record { around = around; fields = fields; phase = phase.Before })
behind_field around fields here token.Semicolon = Ok (record { around = around; fields = fields; phase = phase.Before })
behind_field around fields here next = before_field around fields here next

-- behind a field's name: a colon, or a message
abbrev pub behind_name : List Opened → List Field → List ℕ → ℕ → ℕ → Token → Result State TextCode
behind_name around fields name line here token.Colon = Ok (record { around = around; fields = fields; phase = phase.Colon name line here })
behind_name around fields name line here token.Open = opened around fields name line here
behind_name around fields name line here _ = refused here

-- behind the colon: a bare word, a string, or a message
abbrev pub behind_colon : List Opened → List Field → List ℕ → ℕ → ℕ → Token → Result State TextCode
behind_colon around fields name line here (token.Word word) = valued around fields name line (Bare word)
behind_colon around fields name line here (token.Text text) =
    Ok (record { around = around; fields = fields; phase = phase.Strings name line text })
behind_colon around fields name line here token.Open = opened around fields name line here
behind_colon around fields name line here _ = refused here

-- behind strings: one more, which is joined to them, or what may stand behind a field
abbrev pub behind_strings : List Opened → List Field → List ℕ → ℕ → List ℕ → ℕ → Token → Result State TextCode
behind_strings around fields name line text here (token.Text more) =
    Ok (record { around = around; fields = fields; phase = phase.Strings name line (text ++ more) })
behind_strings around fields name line text here next =
    behind_field around (with_field fields name line (Quoted text)) here next

abbrev pub step_at : List Opened → List Field → Phase → ℕ → Token → Result State TextCode
step_at around fields phase.Before here next = before_field around fields here next
step_at around fields phase.Behind here next = behind_field around fields here next
step_at around fields (phase.Named name line) here next = behind_name around fields name line here next
step_at around fields (phase.Colon name line at) here next = behind_colon around fields name line here next
step_at around fields (phase.Strings name line text) here next = behind_strings around fields name line text here next

-- the state behind one more token
unfoldable pub step : State → ℕ → Token → Result State TextCode
step s here next = step_at s.around s.fields s.phase here next

-- the state behind a token, if there is one
abbrev pub step_by : State → ℕ → Option Token → Result State TextCode
step_by s here None = Ok s
step_by s here (Some next) = step s here next

-- the end of the text outside all messages
abbrev pub ended : List Field → Phase → Result (List Field) TextCode
ended fields phase.Before = Ok fields
ended fields phase.Behind = Ok fields
ended fields (phase.Named name line) = Err (code.Token line)
ended fields (phase.Colon name line at) = Err (code.Token at)
ended fields (phase.Strings name line text) = Ok (with_field fields name line (Quoted text))

abbrev pub ended_in : Option (List Opened × Opened) → List Field → Phase → Result (List Field) TextCode
ended_in None fields at = ended fields at
ended_in (Some found) fields at = Err (code.Unclosed found.1.brace)

-- the end of the text
unfoldable pub end : State → Result (List Field) TextCode
end s = ended_in (innermost s.around) s.fields s.phase

-- what the tokens say from a state on
unfoldable pub run : State → List Placed → Result (List Field) TextCode
run s [] = end s
run s (next ∷ more) = and_then (step s next.line next.token) (λ t. run t more)

abbrev pub start : State
start = record { around = []; fields = []; phase = phase.Before }

-- what reading the bytes answers
unfoldable pub reading : List ℕ → Result (List Field) TextCode
reading bytes = if is_utf8 bytes then run start (tokens 0 1 bytes) else Err code.Utf8
