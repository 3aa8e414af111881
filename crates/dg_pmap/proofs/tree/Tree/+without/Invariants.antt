use Rattle.dg_pmap.proofs.tree.Tree.+without.Given as goal

abbrev pub decreases-without : goal.decreases-without
decreases-without g l = l.self.now.1
