use Rattle.dg_eval.proofs.tests.values_of.Given as goal

abbrev pub ghosts-printed_totals : goal.ghosts-printed_totals
ghosts-printed_totals a = record { name = a.blank.name; parts = a.blank.parts }
