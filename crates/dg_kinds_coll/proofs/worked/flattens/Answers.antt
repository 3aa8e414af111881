use Rattle.dg_base.specs.declared.datum.Datum.{items_hidden-the_row-Datum-0, items_hidden-the_row-FieldOf-1}
use Rattle.dg_kinds_coll.proofs.worked.flattens.Goals as goal

pub returns-clause-child : goal.returns-clause-child
returns-clause-child c = simp (items_hidden-the_row-Datum-0, items_hidden-the_row-FieldOf-1)
