use Rattle.std.proofs.Common.{◌+◌, ◌*◌}
use Rattle.std.specs.Arc.{arc_value}
use Rattle.dg_pmap.proofs.+put.Given as goal

abbrev pub decreases-tree::Tree::put : goal.decreases-tree::Tree::put
decreases-tree::Tree::put g l = 2 * l.self.now.1

abbrev pub decreases-edit::put_below : goal.decreases-edit::put_below
decreases-edit::put_below g l = 2 * (arc_value l.tree.now).1 + 1
