-- Bytes that are a text.
use Rattle.std.specs.Prelude.{ℕ, List, cond, Option, Some, None}
use Rattle.std.specs.Str.{is_utf8}

-- the bytes, where they are UTF-8
abbrev pub text_of : List ℕ → Option (List ℕ)
text_of bytes = cond (is_utf8 bytes) (Some bytes) None
