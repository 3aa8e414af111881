-- The text of a list or a record is that of its members.
use Rattle.std.proofs.Common.{◌≡◌, ℕ, List, ◌++◌, refl, ap, ◌∙◌}
use Rattle.std.specs.Prelude.{codes}
use mathlib.Core.Former.{Count}
use Rattle.dg_base.specs.declared.datum.FieldOf.{FieldOf}
use Rattle.dg_base.specs.declared.datum.Datum.{Datum, List', Rec', Row_of-Datum, end_of-Datum, more_of-Datum, Row_of-FieldOf, end_of-FieldOf, more_of-FieldOf, items-the_row-Datum, items-the_row-FieldOf, items_hidden-the_row-Datum-0, items_hidden-the_row-FieldOf-1}
use Rattle.dg_base.specs.declared.datum.Datum.TheVariants as datum
use Rattle.dg_report.specs.Parts.{label_text, joined, behind_first}
use Rattle.dg_report.specs.Text.{value_text, items_text, more_items_text, fields_text, more_fields_text, field_text, list_text, record_text}

module _ (names : List (List ℕ)) where
  more_items : (n : _) (row : Row_of-Datum n) → more_items_text names row ≡ behind_first (value_text names) (items-the_row-Datum n row)
  more_items n end_of-Datum = refl
  more_items n (more_of-Datum item rest) = ap (λ text. (codes ", " ++ value_text names item) ++ text) (more_items _ rest)

  of_items : (n : _) (row : Row_of-Datum n) → items_text names row ≡ joined (value_text names) (items-the_row-Datum n row)
  of_items n end_of-Datum = refl
  of_items n (more_of-Datum item rest) = ap (λ text. value_text names item ++ text) (more_items _ rest)

  more_fields : (n : _) (row : Row_of-FieldOf n) → more_fields_text names row ≡ behind_first (field_text names) (items-the_row-FieldOf n row)
  more_fields n end_of-FieldOf = refl
  more_fields n (more_of-FieldOf label value rest) =
      ap (λ text. (codes ", " ++ label_text names label ++ codes ": " ++ value_text names value) ++ text) (more_fields _ rest)

  of_fields : (n : _) (row : Row_of-FieldOf n) → fields_text names row ≡ joined (field_text names) (items-the_row-FieldOf n row)
  of_fields n end_of-FieldOf = refl
  of_fields n (more_of-FieldOf label value rest) =
      ap (λ text. (label_text names label ++ codes ": " ++ value_text names value) ++ text) (more_fields _ rest)

abbrev row_of : Datum → (n : Count) × Row_of-Datum n
row_of (List' _ row) = (_, row)
row_of _ = (_, end_of-Datum)

pub text-List : (names : List (List ℕ)) (items : List Datum) → value_text names (datum.List items) ≡ list_text names items
text-List names items =
    let row = row_of (datum.List items) in
    ap (λ text. codes "(" ++ text ++ codes ")")
    (of_items names row.0 row.1 ∙ ap (joined (value_text names)) (items_hidden-the_row-Datum-0 items))

abbrev field_row_of : Datum → (n : Count) × Row_of-FieldOf n
field_row_of (Rec' _ row) = (_, row)
field_row_of _ = (_, end_of-FieldOf)

pub text-Rec : (names : List (List ℕ)) (fields : List FieldOf) → value_text names (datum.Rec fields) ≡ record_text names fields
text-Rec names fields =
    let row = field_row_of (datum.Rec fields) in
    ap (λ text. codes "{" ++ text ++ codes "}")
    (of_fields names row.0 row.1 ∙ ap (joined (field_text names)) (items_hidden-the_row-FieldOf-1 fields))
