use Rattle.dg_alone.proofs.tests.scripts_do_the_work_that_they_say.Given as goal

abbrev pub ghosts-goes : goal.ghosts-goes
ghosts-goes g a = record { name = a.blank.name; parts = a.blank.parts }
