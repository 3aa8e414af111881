use Rattle.dg_room.specs.Names.{names_of}
use Rattle.dg_crowd.proofs.tests.tells_alone.Given as goal

abbrev pub ghosts-tells_story-J-LineName : goal.ghosts-tells_story-J-LineName
ghosts-tells_story-J-LineName g a = record { shelves = a.rows }

abbrev pub ghosts-tells_story-K-RoomName : goal.ghosts-tells_story-K-RoomName
ghosts-tells_story-K-RoomName g a = record { names = names_of 2 a.blanks }
