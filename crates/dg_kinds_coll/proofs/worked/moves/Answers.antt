use Rattle.dg_base.specs.declared.datum.Datum.{items_hidden-the_row-Datum-0, items_hidden-the_row-FieldOf-1}
use Rattle.dg_geom.specs.Composition.{composition}
use Rattle.dg_kinds_coll.proofs.worked.moves.Goals as goal

pub returns-clause-along : goal.returns-clause-along
unfolding composition
returns-clause-along c = simp (items_hidden-the_row-Datum-0, items_hidden-the_row-FieldOf-1)

pub returns-clause-child : goal.returns-clause-child
returns-clause-child c = simp (items_hidden-the_row-Datum-0, items_hidden-the_row-FieldOf-1)

pub returns-clause-past : goal.returns-clause-past
unfolding composition
returns-clause-past c = simp (items_hidden-the_row-Datum-0, items_hidden-the_row-FieldOf-1)
