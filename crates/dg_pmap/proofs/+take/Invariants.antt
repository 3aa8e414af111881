use Rattle.std.proofs.Common.{◌+◌, ◌*◌}
use Rattle.std.specs.Arc.{arc_value}
use Rattle.dg_pmap.proofs.+take.Given as goal

abbrev pub decreases-tree::Tree::take : goal.decreases-tree::Tree::take
decreases-tree::Tree::take g l = 2 * l.self.now.1

abbrev pub decreases-take::take_below : goal.decreases-take::take_below
decreases-take::take_below g l = 2 * (arc_value l.tree.now).1 + 1
