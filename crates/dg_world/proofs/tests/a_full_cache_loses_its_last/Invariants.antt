use Rattle.dg_world.proofs.tests.a_full_cache_loses_its_last.Given as goal

abbrev pub ghosts-played : goal.ghosts-played
ghosts-played g a = record { name = a.blank.name; parts = a.blank.parts }
