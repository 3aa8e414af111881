use Rattle.dg_pool.specs.Names.{names_of}
use Rattle.dg_pool.proofs.uses.exchanged_alone.Given as goal

abbrev pub ghosts-exchanged : goal.ghosts-exchanged
ghosts-exchanged g a = record { names = names_of a.blanks }
