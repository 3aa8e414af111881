use Rattle.std.proofs.Common.{◌≡◌, ◌≤◌, ◌<◌, ◌^◌, length, ap, arith}
use Rattle.dg_pmap.specs.Heights.{fewest}
use Rattle.dg_pmap.specs.Shape.{pairs_in}
use Rattle.dg_pmap.proofs.Shapes.{filled}
use Rattle.dg_pmap.proofs.Heights.{lt-fewest}
use Rattle.dg_pmap.proofs.tree.Tree.height.Goals as goal

pub returns-clause-small : goal.returns-clause-small
returns-clause-small g c =
    omega (arith, lt-fewest c.self.inside.height, filled c.self.inside.height c.self.inside.body c.self.invariant.1, c.self.invariant.0)
