use Rattle.dg_pool.specs.Names.{names_of as pool_names_of}
use Rattle.dg_room.specs.Names.{names_of}
use Rattle.dg_shared.proofs.shared.play_shared.Given as goal

abbrev pub ghosts-play_named-K-RoomName : goal.ghosts-play_named-K-RoomName
ghosts-play_named-K-RoomName g a = record { names = names_of a.passes a.room_blanks }

abbrev pub ghosts-play_named-N-PoolName : goal.ghosts-play_named-N-PoolName
ghosts-play_named-N-PoolName g a = record { names = pool_names_of a.pool_blanks }
