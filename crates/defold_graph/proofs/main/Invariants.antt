use Rattle.defold_graph.proofs.main.Given as goal

abbrev pub ghosts-status_of-J-LineName : goal.ghosts-status_of-J-LineName
ghosts-status_of-J-LineName g a = record { shelves = a.rows }

abbrev pub ghosts-status_of-L-Ledger : goal.ghosts-status_of-L-Ledger
ghosts-status_of-L-Ledger g a = record { name = a.blank.name; parts = a.blank.parts }
