use Rattle.std.proofs.Common.{length}
use Rattle.dg_bind.proofs.scope.Scope.+node.Given as goal

abbrev pub decreases-node : goal.decreases-node
decreases-node l = length l.word.now
