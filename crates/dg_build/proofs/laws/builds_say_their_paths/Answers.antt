use Rattle.dg_build.proofs.Built.{game_objects, collections}
use Rattle.dg_build.proofs.laws.builds_say_their_paths.Goals as goal

pub returns-clause-game_objects : goal.returns-clause-game_objects
returns-clause-game_objects c = game_objects

pub returns-clause-collections : goal.returns-clause-collections
returns-clause-collections c = collections
