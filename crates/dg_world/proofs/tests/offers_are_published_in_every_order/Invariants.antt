use Rattle.dg_world.proofs.tests.offers_are_published_in_every_order.Given as goal

abbrev pub ghosts-as_listed : goal.ghosts-as_listed
ghosts-as_listed g a = record { name = a.blank.name; parts = a.blank.parts }
