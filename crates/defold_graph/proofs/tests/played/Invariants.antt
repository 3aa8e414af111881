use Rattle.defold_graph.proofs.tests.played.Given as goal

abbrev pub ghosts-status_in-J-LineName : goal.ghosts-status_in-J-LineName
ghosts-status_in-J-LineName g a = record { shelves = a.rows }

abbrev pub ghosts-status_in-L-Ledger : goal.ghosts-status_in-L-Ledger
ghosts-status_in-L-Ledger g a = record { name = a.blank.name; parts = a.blank.parts }
