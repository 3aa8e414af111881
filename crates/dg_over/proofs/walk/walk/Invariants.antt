use Rattle.std.proofs.Common.{◌≡◌, ◌+◌, [], fold, length, reverse}
use Rattle.dg_base.specs.Same.{same_node}
use Rattle.dg_base.specs.Walk.{walk_within}
use Rattle.dg_base.specs.Owned.{enough_levels}
use Rattle.dg_laws.proofs.Walks.{IsIn, work}
use Rattle.dg_laws.proofs.GraphWalks.{ids_from}
use Rattle.dg_over.specs.Follow.{followed}
use Rattle.dg_over.proofs.walk.walk.Given as goal

abbrev pub invariant-loop-at : goal.invariant-loop-at
invariant-loop-at g l = record {
  there : IsIn same_node l.stack.items (ids_from l.graph l.fn.node);
  so_far :
      fold (walk_within same_node (enough_levels l.graph) (followed g.S.Schema.tables l.graph l.follow)) l.met (reverse l.stack.items)
      ≡ walk_within same_node (enough_levels l.graph) (followed g.S.Schema.tables l.graph l.follow) [] l.fn.node;
}

abbrev pub decreases-loop-at : goal.decreases-loop-at
decreases-loop-at g l = work same_node (followed g.S.Schema.tables l.graph l.follow) l.met (ids_from l.graph l.fn.node) + length l.stack.items
