use Rattle.dg_pool.specs.Names.{names_of}
use Rattle.dg_pool.proofs.uses.plays_alone.Given as goal

abbrev pub ghosts-plays : goal.ghosts-plays
ghosts-plays g a = record { names = names_of a.blanks }
