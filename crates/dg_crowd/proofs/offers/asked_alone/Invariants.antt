use Rattle.dg_crowd.proofs.offers.asked_alone.Given as goal

abbrev pub ghosts-offered : goal.ghosts-offered
ghosts-offered g a = record { name = a.blank.name; parts = a.blank.parts }
