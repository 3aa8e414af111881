use Rattle.dg_pmap.proofs.tree.Tree.+get.Given as goal

abbrev pub decreases-get : goal.decreases-get
decreases-get g l = l.self.now.1
