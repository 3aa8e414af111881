use Rattle.dg_lua.proofs.values.+more.Given as goal

abbrev pub decreases-more : goal.decreases-more
decreases-more l = l.count
