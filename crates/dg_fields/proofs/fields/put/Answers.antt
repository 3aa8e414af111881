use Rattle.std.proofs.Common.{◌≡◌, List, sym, ap, subst, ◌∙◌, OnOk, option_copied}
use Rattle.dg_base.specs.declared.datum.FieldOf.{FieldOf}
use Rattle.dg_fields.specs.Places.{place_of}
use Rattle.dg_fields.proofs.PutValues.{put_value_there, put_value_new}
use Rattle.dg_fields.proofs.fields.put.Goals as goal

pub returns-then-is_labelled-clause-ok : goal.returns-then-is_labelled-clause-ok
returns-then-is_labelled-clause-ok c =
    let place = c.place_of-place.ensures.place ∙ ap (λ (z : List FieldOf). place_of z c.args.label) c.as_slice.ensures in
    c.set.ensures
    ∙ sym (put_value_there c.args.fields.now c.args.label c.args.value c.place_of-place.result (option_copied c.get.result)
    place c.get.ensures.value (sym c.is_labelled.ensures ∙ c.if-is_labelled.true))

pub returns-clause-ok : goal.returns-clause-ok
returns-clause-ok c =
    let place = c.place_of-place.ensures.place ∙ ap (λ (z : List FieldOf). place_of z c.args.label) c.as_slice.ensures in
    subst (λ (w : List FieldOf). OnOk c.insert.result (c.insert.new.fields ≡ w))
    (sym (put_value_new c.args.fields.now c.args.label c.args.value c.place_of-place.result (option_copied c.get.result)
    place c.get.ensures.value (sym c.is_labelled.ensures ∙ c.if-is_labelled.false)))
    c.insert.ensures.ok
