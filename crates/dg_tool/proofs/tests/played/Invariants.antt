use Rattle.dg_tool.proofs.tests.played.Given as goal

abbrev pub ghosts-ended : goal.ghosts-ended
ghosts-ended a = record { name = a.blank.name; parts = a.blank.parts }
