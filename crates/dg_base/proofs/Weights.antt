-- The weight of a list or a record is that of its members.
use Rattle.std.proofs.Common.{◌≡◌, ◌+◌, List, refl, sym, ap, ◌∙◌}
use Rattle.std.proofs.lemmas.List.Sums.{sum_by-cons}
use mathlib.Core.Former.{Count}
use Rattle.dg_base.specs.Weight.{weight, weight_of_items, weight_of_fields, weights_of, field_weights_of}
use Rattle.dg_base.specs.declared.datum.FieldOf.{FieldOf}
use Rattle.dg_base.specs.declared.datum.Datum.{Datum, List', Rec', Row_of-Datum, end_of-Datum, more_of-Datum, Row_of-FieldOf, end_of-FieldOf, more_of-FieldOf, items-the_row-Datum, items-the_row-FieldOf, items_hidden-the_row-Datum-0, items_hidden-the_row-FieldOf-1}
use Rattle.dg_base.specs.declared.datum.Datum.TheVariants as datum

of_items : (n : _) (row : Row_of-Datum n) → weight_of_items row ≡ weights_of (items-the_row-Datum n row)
of_items n end_of-Datum = refl
of_items n (more_of-Datum item rest) =
    ap (λ w. weight item + w) (of_items _ rest) ∙ sym (sum_by-cons weight item (items-the_row-Datum _ rest))

of_fields : (n : _) (row : Row_of-FieldOf n) → weight_of_fields row ≡ field_weights_of (items-the_row-FieldOf n row)
of_fields n end_of-FieldOf = refl
of_fields n (more_of-FieldOf label value rest) =
    ap (λ w. weight value + w) (of_fields _ rest)
    ∙ sym (sum_by-cons (λ f. weight f.value) (record { label = label; value = value }) (items-the_row-FieldOf _ rest))

abbrev row_of : Datum → (n : Count) × Row_of-Datum n
row_of (List' _ row) = (_, row)
row_of _ = (_, end_of-Datum)

pub weight-List : (items : List Datum) → weight (datum.List items) ≡ 16 + weights_of items
weight-List items =
    let row = row_of (datum.List items) in
    ap (λ w. 16 + w) (of_items row.0 row.1 ∙ ap weights_of (items_hidden-the_row-Datum-0 items))

abbrev field_row_of : Datum → (n : Count) × Row_of-FieldOf n
field_row_of (Rec' _ row) = (_, row)
field_row_of _ = (_, end_of-FieldOf)

pub weight-Rec : (fields : List FieldOf) → weight (datum.Rec fields) ≡ 16 + field_weights_of fields
weight-Rec fields =
    let row = field_row_of (datum.Rec fields) in
    ap (λ w. 16 + w) (of_fields row.0 row.1 ∙ ap field_weights_of (items_hidden-the_row-FieldOf-1 fields))
