use Rattle.dg_room.specs.Names.{names_of}
use Rattle.dg_room.proofs.tests.is_short_alone.Given as goal

abbrev pub ghosts-is_short-J-LineName : goal.ghosts-is_short-J-LineName
ghosts-is_short-J-LineName g a = record { shelves = a.rows }

abbrev pub ghosts-is_short-K-RoomName : goal.ghosts-is_short-K-RoomName
ghosts-is_short-K-RoomName g a = record { names = names_of 2 a.blanks }
