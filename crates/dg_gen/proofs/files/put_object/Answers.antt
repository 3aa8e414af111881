use Rattle.dg_gen.proofs.FileLists.{two_put}
use Rattle.dg_gen.proofs.files.put_object.Goals as goal

pub returns : goal.returns
returns c = two_put _ _ _ _ _ c.in_ok-put_script.ensures c.in_ok-put_game_object.ensures
