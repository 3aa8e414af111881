use Rattle.dg_ptext.proofs.ReadBack as again
use Rattle.dg_ptext.proofs.laws.reads_again.Goals as goal

pub returns : goal.returns
returns c = again.reads_again
