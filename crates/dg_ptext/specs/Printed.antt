-- The one text that a tree is printed as.
use Rattle.std.specs.Prelude.{ℕ, List, [], ◌∷◌, ◌++◌}
use Rattle.std.specs.List.{flat_map}
use Rattle.dg_text.specs.Quoted.{quoted}
use Rattle.dg_ptext.specs.declared.tree.Field.{Field}
use Rattle.dg_ptext.specs.declared.tree.Value.{Value, Bare, Quoted, Message', Row_of-Field, end_of-Field, more_of-Field}

-- A field stands on a line of its own behind a margin: its name, a colon, a blank and its value, or its name, a blank,
-- an opening brace, its fields with a margin of two blanks more, and a closing brace on a line of its own.
abbrev mutual
  pub printed_value : List ℕ → Value → List ℕ
  printed_value margin (Bare word) = 58 ∷ 32 ∷ word ++ 10 ∷ []
  printed_value margin (Quoted text) = 58 ∷ 32 ∷ quoted text ++ 10 ∷ []
  printed_value margin (Message' shape fields) =
      32 ∷ 123 ∷ 10 ∷ printed_fields (margin ++ 32 ∷ 32 ∷ []) fields ++ margin ++ 125 ∷ 10 ∷ []

  pub printed_fields : {m : _} → List ℕ → Row_of-Field m → List ℕ
  printed_fields margin end_of-Field = []
  printed_fields margin (more_of-Field name line value rest) =
      margin ++ name ++ printed_value margin value ++ printed_fields margin rest

abbrev pub printed_field : List ℕ → Field → List ℕ
printed_field margin f = margin ++ f.name ++ printed_value margin f.value

-- the text of fields behind a margin
abbrev pub printed : List ℕ → List Field → List ℕ
printed margin fields = flat_map (printed_field margin) fields
