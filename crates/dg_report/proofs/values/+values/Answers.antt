use Rattle.std.proofs.Common.{◌∙◌, sym, ap}
use Rattle.dg_report.specs.Text.{value_text}
use Rattle.dg_report.proofs.Rows.{text-List, text-Rec}
use Rattle.dg_report.proofs.values.+values.Goals as goal

pub put_value-returns-in-List : goal.put_value-returns-in-List
put_value-returns-in-List t c =
    let whole = ap (value_text c.args.names.now) c.in-List.is ∙ text-List c.args.names.now c.in-List.items in
    rw (whole, sym c.as_slice.ensures) c.put_items.ensures

pub put_value-returns-in-Rec : goal.put_value-returns-in-Rec
put_value-returns-in-Rec t c =
    let whole = ap (value_text c.args.names.now) c.in-Rec.is ∙ text-Rec c.args.names.now c.in-Rec.fields in
    rw (whole, sym c.as_slice-in-Rec.ensures) c.put_fields.ensures
