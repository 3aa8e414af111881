use Rattle.defold_graph.proofs.tests.played_alone.Given as goal

abbrev pub ghosts-status_alone : goal.ghosts-status_alone
ghosts-status_alone a = record { name = a.blank.name; parts = a.blank.parts }
