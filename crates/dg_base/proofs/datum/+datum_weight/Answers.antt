use Rattle.std.proofs.Common.{arith, ◌∙◌, ap}
use Rattle.dg_base.specs.Weight.{weight}
use Rattle.dg_base.proofs.Weights.{weight-List, weight-Rec}
use Rattle.dg_base.proofs.datum.+datum_weight.Goals as goal

pub Datum::weight-returns-in-List : goal.Datum::weight-returns-in-List
Datum::weight-returns-in-List t c =
    let whole = ap weight c.in-List.is ∙ weight-List c.in-List.items in
    grind (arith, whole, c.weight_of_items.ensures, c.saturating_add.ensures)

pub Datum::weight-returns-in-Rec : goal.Datum::weight-returns-in-Rec
Datum::weight-returns-in-Rec t c =
    let whole = ap weight c.in-Rec.is ∙ weight-Rec c.in-Rec.fields in
    grind (arith, whole, c.weight_of_fields.ensures, c.saturating_add-in-Rec.ensures)
