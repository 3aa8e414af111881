use Rattle.dg_room.specs.Names.{names_of}
use Rattle.dg_crowd.proofs.tests.told_alone.Given as goal

abbrev pub ghosts-told_after-J-LineName : goal.ghosts-told_after-J-LineName
ghosts-told_after-J-LineName g a = record { shelves = a.rows }

abbrev pub ghosts-told_after-K-RoomName : goal.ghosts-told_after-K-RoomName
ghosts-told_after-K-RoomName g a = record { names = names_of 9 a.blanks }
