-- The first fault of a message is that of its fields.
use Rattle.std.proofs.Common.{◌≡◌, ℕ, List, refl, ap, ◌∙◌}
use Rattle.std.specs.Option.{option_or}
use mathlib.Core.Former.{Count}
use Rattle.dg_ptext.specs.declared.tree.Field.{Field}
use Rattle.dg_ptext.specs.declared.tree.Value.{Value, Message', Row_of-Field, end_of-Field, more_of-Field, items-the_row-Field, items_hidden-the_row-Field-0}
use Rattle.dg_ptext.specs.declared.tree.Value.TheVariants as value
use Rattle.dg_desc.specs.declared.known.Message.{Message}
use Rattle.dg_desc.specs.declared.known.Place.{Place}
use Rattle.dg_desc.specs.declared.known.Form.TheVariants as form
use Rattle.dg_desc.specs.Known.{rows_of, place_in}
use Rattle.dg_desc.specs.Faults.{missing, message_fault, value_fault, row_fault, fields_fault, fault_of}

pub of_fields : (m : Message) (n : _) (row : Row_of-Field n) → row_fault m row ≡ fields_fault m (items-the_row-Field n row)
of_fields m n end_of-Field = refl
of_fields m n (more_of-Field name line v rest) = ap (option_or (value_fault (place_in m name) line v)) (of_fields m _ rest)

abbrev row_of : Value → (n : Count) × Row_of-Field n
row_of (Message' _ row) = (_, row)
row_of _ = (_, end_of-Field)

-- a message has the fault that its place finds
pub fault-Message : (place : Place) (line : ℕ) (fields : List Field)
    → value_fault place line (value.Message fields) ≡ message_fault place.form line place (λ m. fault_of m line fields)
fault-Message place line fields =
    let row = row_of (value.Message fields) in
    λ i. message_fault place.form line place (λ m. (
    ap (λ e. option_or e (missing (rows_of m) line (items-the_row-Field row.0 row.1))) (of_fields m row.0 row.1)
    ∙ ap (fault_of m line) (items_hidden-the_row-Field-0 fields)) i)

pub fault-Inner : (place : Place) (m : Message) (line : ℕ) (fields : List Field) → place.form ≡ form.Inner m
    → value_fault place line (value.Message fields) ≡ fault_of m line fields
fault-Inner place m line fields is =
    fault-Message place line fields ∙ ap (λ f. message_fault f line place (λ m. fault_of m line fields)) is
