-- Trees that are the same but for line numbers.
use Rattle.std.specs.Prelude.{◌≡◌, ℕ, List, [], ◌∷◌}
use Rattle.dg_ptext.specs.declared.tree.Field.{Field}
use Rattle.dg_ptext.specs.declared.tree.Value.{Value}
use Rattle.dg_ptext.specs.declared.tree.Value.TheVariants as value

mutual
  pub data SameFields : List Field → List Field → Type 0 where
    none : (fields others : List Field) → fields ≡ [] → others ≡ [] → SameFields fields others
    one_more : (fields others : List Field) (name : List ℕ) (line other_line : ℕ) (v other : Value) (more other_more : List Field)
        → SameValue v other → SameFields more other_more
        → fields ≡ record { name = name; line = line; value = v } ∷ more
        → others ≡ record { name = name; line = other_line; value = other } ∷ other_more
        → SameFields fields others

  pub data SameValue : Value → Value → Type 0 where
    bare : (v other : Value) (word : List ℕ) → v ≡ value.Bare word → other ≡ value.Bare word → SameValue v other
    quoted : (v other : Value) (text : List ℕ) → v ≡ value.Quoted text → other ≡ value.Quoted text → SameValue v other
    message : (v other : Value) (fields others : List Field) → SameFields fields others
        → v ≡ value.Message fields → other ≡ value.Message others → SameValue v other
