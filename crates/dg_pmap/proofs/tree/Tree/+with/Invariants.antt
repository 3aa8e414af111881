use Rattle.dg_pmap.proofs.tree.Tree.+with.Given as goal

abbrev pub decreases-with : goal.decreases-with
decreases-with g l = l.self.now.1
