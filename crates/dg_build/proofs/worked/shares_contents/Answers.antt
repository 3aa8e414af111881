use Rattle.dg_base.specs.declared.datum.Datum.{items_hidden-the_row-Datum-0, items_hidden-the_row-FieldOf-1}
use Rattle.dg_build.proofs.worked.shares_contents.Goals as goal

pub returns : goal.returns
returns c = simp (items_hidden-the_row-Datum-0, items_hidden-the_row-FieldOf-1)
