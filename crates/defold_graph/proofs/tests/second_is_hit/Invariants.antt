use Rattle.defold_graph.proofs.tests.second_is_hit.Given as goal

abbrev pub ghosts-hits_the_second-J-LineName : goal.ghosts-hits_the_second-J-LineName
ghosts-hits_the_second-J-LineName g a = record { shelves = a.rows }

abbrev pub ghosts-hits_the_second-L-Ledger : goal.ghosts-hits_the_second-L-Ledger
ghosts-hits_the_second-L-Ledger g a = record { name = a.blank.name; parts = a.blank.parts }
