-- Which tokens are which fields, production by production.
use Rattle.std.specs.Prelude.{◌≡◌, ℕ, ◌+◌, ◌<◌, ◌⊎◌, true, List, [], ◌∷◌, ◌++◌, map}
use Rattle.std.specs.List.{flat_map}
use Rattle.std.specs.Str.{is_utf8}
use Rattle.dg_ptext.specs.declared.tree.Field.{Field}
use Rattle.dg_ptext.specs.declared.tree.Value.{Value}
use Rattle.dg_ptext.specs.declared.tree.Value.TheVariants as value
use Rattle.dg_ptext.specs.declared.token.Token.{Token}
use Rattle.dg_ptext.specs.declared.token.Token.TheVariants as token
use Rattle.dg_text.specs.Names.{is_name}
use Rattle.dg_ptext.specs.Token.{Placed, tokens}

-- a token on a line
abbrev pub on : ℕ → Token → Placed
on line t = record { line = line; token = t }

-- A colon that may be left out, before a message.
abbrev pub IsOptionalColon : List Placed → Type 0
IsOptionalColon ts = (ts ≡ []) ⊎ ((line : ℕ) × (ts ≡ on line token.Colon ∷ []))

-- Behind a field one comma or one semicolon may stand.
abbrev pub IsSeparator : List Placed → Type 0
IsSeparator ts = (ts ≡ []) ⊎ ((line : ℕ) × (ts ≡ on line token.Comma ∷ [])) ⊎ ((line : ℕ) × (ts ≡ on line token.Semicolon ∷ []))

-- strings, each a line and a text: the tokens that they are, and the one text that they are together
abbrev pub string_tokens : List (ℕ × List ℕ) → List Placed
string_tokens strings = map (λ s. on s.0 (token.Text s.1)) strings

abbrev pub joined : List (ℕ × List ℕ) → List ℕ
joined strings = flat_map (λ s. s.1) strings

-- Fields that lie in so many messages, and the tokens that they are: a name, a value and a separator each, where a
-- value is a colon and a word, a colon and strings, or fields between braces.
mutual
  pub data AreFields : ℕ → List Field → List Placed → Type 0 where
    none : (depth : ℕ) (fields : List Field) (ts : List Placed) → fields ≡ [] → ts ≡ [] → AreFields depth fields ts
    one_more : (depth : ℕ) (fields : List Field) (ts : List Placed) (name : List ℕ) (line : ℕ) (v : Value) (more : List Field)
        (value_ts separator_ts more_ts : List Placed)
        → is_name name ≡ true → IsValue depth v value_ts → IsSeparator separator_ts → AreFields depth more more_ts
        → fields ≡ record { name = name; line = line; value = v } ∷ more
        → ts ≡ on line (token.Word name) ∷ (value_ts ++ (separator_ts ++ more_ts))
        → AreFields depth fields ts

  pub data IsValue : ℕ → Value → List Placed → Type 0 where
    bare : (depth : ℕ) (v : Value) (ts : List Placed) (word : List ℕ) (colon line : ℕ)
        → v ≡ value.Bare word → ts ≡ on colon token.Colon ∷ on line (token.Word word) ∷ [] → IsValue depth v ts
    quoted : (depth : ℕ) (v : Value) (ts : List Placed) (colon : ℕ) (first : ℕ × List ℕ) (others : List (ℕ × List ℕ))
        → v ≡ value.Quoted (joined (first ∷ others)) → ts ≡ on colon token.Colon ∷ string_tokens (first ∷ others) → IsValue depth v ts
    message : (depth : ℕ) (v : Value) (ts : List Placed) (fields : List Field) (colon_ts inner_ts : List Placed) (brace close : ℕ)
        → depth < 64 → IsOptionalColon colon_ts → AreFields (depth + 1) fields inner_ts
        → v ≡ value.Message fields
        → ts ≡ colon_ts ++ on brace token.Open ∷ (inner_ts ++ on close token.Close ∷ [])
        → IsValue depth v ts

-- The bytes are a text of the tree: they are UTF-8, and their tokens are its fields.
pub record Spells (bytes : List ℕ) (tree : List Field) : Type 0 where
  pub utf8 : is_utf8 bytes ≡ true
  pub fields : AreFields 0 tree (tokens 0 1 bytes)
