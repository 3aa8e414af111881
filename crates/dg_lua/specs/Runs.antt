-- The runs of the parts, as the reader names them.
use Rattle.std.specs.Prelude.{ℕ, Bool}
use Rattle.dg_lua.specs.declared.parts.Run.{Run}
use Rattle.dg_lua.specs.declared.parts.Run.TheVariants as run
use Rattle.dg_lua.specs.Parts.{is_blank, is_letter, is_of_decimal, is_inside}

-- whether a byte is one of a run
abbrev pub belongs : Run → ℕ → Bool
belongs run.Blanks = is_blank
belongs run.Letters = is_letter
belongs run.Decimal = is_of_decimal
belongs run.Double = is_inside 34
belongs run.Single = is_inside 39
