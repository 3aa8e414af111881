use Rattle.dg_eval.proofs.tests.plain_values_of.Given as goal

abbrev pub ghosts-plain_totals : goal.ghosts-plain_totals
ghosts-plain_totals a = record { name = a.blank.name; parts = a.blank.parts }
