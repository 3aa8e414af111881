use Rattle.std.proofs.Common.{List, sym, ap, ◌∙◌}
use Rattle.dg_base.specs.declared.datum.FieldOf.{FieldOf}
use Rattle.dg_base.specs.Rule.{overlaid}
use Rattle.dg_reads.proofs.OpenFields.{overlaid-last}
use Rattle.dg_reads.proofs.open_properties.lay_over.Goals as goal

pub loop-field-preserved : goal.loop-field-preserved
loop-field-preserved c =
    ap (overlaid c.pop.new.self) c.in_ok-put.ensures.ok
    ∙ sym (overlaid-last c.pop.new.self c.in-Some.field c.loop-field.fields)
    ∙ ap (λ (fs : List FieldOf). overlaid fs c.loop-field.fields) (sym c.in-Some.ensures)
    ∙ c.loop-field.invariant
