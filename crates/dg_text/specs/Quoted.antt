-- Quoted text.
use Rattle.std.specs.Prelude.{ℕ, ◌+◌, ◌/◌, ◌%◌, ◌||◌, List, [], ◌∷◌, ◌++◌, ◌==◌, nat_lt, if◌then◌else◌}
use Rattle.std.specs.List.{flat_map}

-- a backslash and three octal digits
abbrev pub octal_text : ℕ → List ℕ
octal_text b = 92 ∷ (48 + b / 64) ∷ (48 + b / 8 % 8) ∷ (48 + b % 8) ∷ []

-- A byte between quotes: `\"`, `\\`, `\n`, `\r`, `\t`, octal digits for what else is below 32 and for 127,
-- and else the byte itself.
unfoldable pub escaped : ℕ → List ℕ
escaped b =
    if b == 34 then 92 ∷ 34 ∷ [] else
    (if b == 92 then 92 ∷ 92 ∷ [] else
    (if b == 10 then 92 ∷ 110 ∷ [] else
    (if b == 13 then 92 ∷ 114 ∷ [] else
    (if b == 9 then 92 ∷ 116 ∷ [] else
    (if (nat_lt b 32 || b == 127) then octal_text b else b ∷ [])))))

-- a text between quotes, byte by byte
abbrev pub quoted : List ℕ → List ℕ
quoted text = 34 ∷ flat_map escaped text ++ 34 ∷ []
