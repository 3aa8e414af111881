use Rattle.dg_room.specs.Names.{names_of}
use Rattle.dg_room.proofs.tests.all_evict_alone.Given as goal

abbrev pub ghosts-all_evict-J-LineName : goal.ghosts-all_evict-J-LineName
ghosts-all_evict-J-LineName g a = record { shelves = a.rows }

abbrev pub ghosts-all_evict-K-RoomName : goal.ghosts-all_evict-K-RoomName
ghosts-all_evict-K-RoomName g a = record { names = names_of a.passes a.blanks }
