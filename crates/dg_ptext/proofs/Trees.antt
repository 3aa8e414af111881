-- What is printed of a message is what is printed of its fields.
use Rattle.std.proofs.Common.{◌≡◌, ℕ, List, [], ◌∷◌, ◌++◌, refl, ap, ◌∙◌}
use mathlib.Core.Former.{Count}
use Rattle.dg_ptext.specs.Printed.{printed_value, printed_fields, printed}
use Rattle.dg_ptext.specs.declared.tree.Field.{Field}
use Rattle.dg_ptext.specs.declared.tree.Value.{Value, Message', Row_of-Field, end_of-Field, more_of-Field, items-the_row-Field, items_hidden-the_row-Field-0}
use Rattle.dg_ptext.specs.declared.tree.Value.TheVariants as value

of_fields : (margin : List ℕ) (n : _) (row : Row_of-Field n)
    → printed_fields margin row ≡ printed margin (items-the_row-Field n row)
of_fields margin n end_of-Field = refl
of_fields margin n (more_of-Field name line value rest) =
    ap (λ text. margin ++ name ++ printed_value margin value ++ text) (of_fields margin _ rest)

abbrev pub row_of : Value → (n : Count) × Row_of-Field n
row_of (Message' _ row) = (_, row)
row_of _ = (_, end_of-Field)

pub printed-Message : (margin : List ℕ) (fields : List Field)
    → printed_value margin (value.Message fields)
    ≡ 32 ∷ 123 ∷ 10 ∷ printed (margin ++ 32 ∷ 32 ∷ []) fields ++ margin ++ 125 ∷ 10 ∷ []
printed-Message margin fields =
    let row = row_of (value.Message fields) in
    ap (λ text. 32 ∷ 123 ∷ 10 ∷ text ++ margin ++ 125 ∷ 10 ∷ [])
    (of_fields (margin ++ 32 ∷ 32 ∷ []) row.0 row.1 ∙ ap (printed (margin ++ 32 ∷ 32 ∷ [])) (items_hidden-the_row-Field-0 fields))
