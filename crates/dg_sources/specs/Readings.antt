-- What a text of each sort says, or why it isn't read.
use Rattle.std.specs.Prelude.{ℕ, List, Option, Some, None, Result, Ok, Err}
use Rattle.dg_text.specs.Decoded.{text_of}
use Rattle.dg_lua.specs.declared.declaration.Declaration.{Declaration}
use Rattle.dg_lua.specs.Script.{declarations}
use Rattle.dg_ptext.specs.declared.tree.Field.{Field}
use Rattle.dg_ptext.specs.declared.refusal.TextCode.{TextCode}
use Rattle.dg_ptext.specs.declared.refusal.TextCode.TheVariants as text
use Rattle.dg_ptext.specs.Reading.{reading}
use Rattle.dg_desc.specs.declared.refusal.DescCode.{DescCode}
use Rattle.dg_desc.specs.declared.refusal.DescCode.TheVariants as desc
use Rattle.dg_desc.specs.declared.descs.GoDesc.{GoDesc}
use Rattle.dg_desc.specs.declared.descs.CollDesc.{CollDesc}
use Rattle.dg_desc.specs.Descs.{go_reading, coll_reading}
use Rattle.dg_sources.specs.declared.bad.BadCode.{BadCode}
use Rattle.dg_sources.specs.declared.bad.BadCode.TheVariants as bad
use Rattle.dg_sources.specs.declared.bad.Unread.{Unread}

abbrev pub unread : ℕ → BadCode → Unread
unread line code = record { line = line; code = code }

-- ---- scripts

abbrev pub declared : Option (List ℕ) → Result (List Declaration) Unread
declared None = Err (unread 0 bad.Utf8)
declared (Some text) = Ok (declarations text)

-- ---- game objects and collections

abbrev pub unread_text : TextCode → Unread
unread_text text.Utf8 = unread 0 bad.Utf8
unread_text (text.Token line) = unread line bad.Token
unread_text (text.Nesting line) = unread line bad.Nesting
unread_text (text.Unclosed line) = unread line bad.Unclosed

abbrev pub unread_desc : DescCode → Unread
unread_desc (desc.Missing line field) = unread line bad.Missing
unread_desc (desc.Form line field) = unread line bad.Form

-- a description of the fields of a text
abbrev pub described : {D : Type 0} → Result D DescCode → Result D Unread
described (Ok d) = Ok d
described (Err code) = Err (unread_desc code)

abbrev pub understood : {D : Type 0} → (List Field → Result D DescCode) → Result (List Field) TextCode → Result D Unread
understood read (Ok fields) = described (read fields)
understood read (Err code) = Err (unread_text code)

-- what bytes say
abbrev pub script_in : List ℕ → Result (List Declaration) Unread
script_in bytes = declared (text_of bytes)

abbrev pub object_in : List ℕ → Result GoDesc Unread
object_in bytes = understood go_reading (reading bytes)

abbrev pub collection_in : List ℕ → Result CollDesc Unread
collection_in bytes = understood coll_reading (reading bytes)

-- what a file says, which may have gone since it was listed
abbrev pub unless_gone : {D : Type 0} → (List ℕ → Result D Unread) → Option (List ℕ) → Result D Unread
unless_gone read None = Err (unread 0 bad.Gone)
unless_gone read (Some bytes) = read bytes
