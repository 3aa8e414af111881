use Rattle.std.specs.List.{remove}
use Rattle.std.proofs.Common.{◌≡◌, ℕ, List, Option, cond, slice_get, sym, ap, ◌∙◌}
use Rattle.dg_base.specs.declared.datum.FieldOf.{FieldOf}
use Rattle.dg_fields.specs.Places.{place_of, has_label}
use Rattle.dg_fields.proofs.ClearedValues.{cleared_at}
use Rattle.dg_fields.proofs.fields.clear.Goals as goal

pub returns-then-is_labelled : goal.returns-then-is_labelled
returns-then-is_labelled c =
    let fields : List FieldOf = c.args.fields.now in
    let place : c.place_of-place.result ≡ place_of fields c.args.label = c.place_of-place.ensures.place ∙ ap (λ (fs : List FieldOf). place_of fs c.args.label) c.as_slice.ensures in
    c.remove-gone.ensures.rest
    ∙ ap (remove fields) place
    ∙ sym (ap (λ b. cond b (remove fields (place_of fields c.args.label)) fields)
    (ap (λ (i : ℕ). has_label (slice_get fields i) c.args.label) (sym place) ∙ ap (λ (o : Option FieldOf). has_label o c.args.label) (sym c.get.ensures.value) ∙ sym c.is_labelled.ensures ∙ c.if-is_labelled.true))
    ∙ sym (cleared_at c.args.label fields c.requires)

pub returns-else-is_labelled : goal.returns-else-is_labelled
returns-else-is_labelled c =
    let fields : List FieldOf = c.args.fields.now in
    let place : c.place_of-place.result ≡ place_of fields c.args.label = c.place_of-place.ensures.place ∙ ap (λ (fs : List FieldOf). place_of fs c.args.label) c.as_slice.ensures in
    sym (ap (λ b. cond b (remove fields (place_of fields c.args.label)) fields)
    (ap (λ (i : ℕ). has_label (slice_get fields i) c.args.label) (sym place) ∙ ap (λ (o : Option FieldOf). has_label o c.args.label) (sym c.get.ensures.value) ∙ sym c.is_labelled.ensures ∙ c.if-is_labelled.false))
    ∙ sym (cleared_at c.args.label fields c.requires)
