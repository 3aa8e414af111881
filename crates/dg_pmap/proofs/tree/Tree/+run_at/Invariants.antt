use Rattle.dg_pmap.proofs.tree.Tree.+run_at.Given as goal

abbrev pub decreases-run_at : goal.decreases-run_at
decreases-run_at g l = l.self.now.1
