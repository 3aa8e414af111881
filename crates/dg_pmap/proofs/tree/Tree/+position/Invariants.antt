use Rattle.dg_pmap.proofs.tree.Tree.+position.Given as goal

abbrev pub decreases-position : goal.decreases-position
decreases-position g l = l.self.now.1
