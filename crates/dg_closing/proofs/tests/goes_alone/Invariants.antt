use Rattle.dg_closing.proofs.tests.goes_alone.Given as goal

abbrev pub ghosts-goes-J-LineName : goal.ghosts-goes-J-LineName
ghosts-goes-J-LineName g a = record { shelves = a.rows }

abbrev pub ghosts-goes-L-Ledger : goal.ghosts-goes-L-Ledger
ghosts-goes-L-Ledger g a = record { name = a.blank.name; parts = a.blank.parts }
