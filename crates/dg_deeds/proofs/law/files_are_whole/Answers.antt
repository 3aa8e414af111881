use Rattle.dg_deeds.proofs.Parts.{tree_after-begun}
use Rattle.dg_deeds.proofs.law.files_are_whole.Goals as goal

pub returns : goal.returns
returns c = tree_after-begun
