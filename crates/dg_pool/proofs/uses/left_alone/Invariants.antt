use Rattle.std.specs.Prelude.{◌==◌}
use Rattle.dg_pool.specs.Names.{names_of}
use Rattle.dg_pool.proofs.uses.left_alone.Given as goal

abbrev pub ghosts-left_of-N-PoolName : goal.ghosts-left_of-N-PoolName
ghosts-left_of-N-PoolName g a = record { names = names_of a.blanks }

abbrev pub ghosts-left_of-T-Test : goal.ghosts-left_of-T-Test
ghosts-left_of-T-Test g a = record { meets = λ j. j == a.job }
