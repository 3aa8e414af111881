use Rattle.dg_line.proofs.uses.counts_alone.Given as goal

abbrev pub ghosts-counts_shared : goal.ghosts-counts_shared
ghosts-counts_shared g a = record { shelves = a.rows }
