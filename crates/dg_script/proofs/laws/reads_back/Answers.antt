use Rattle.dg_script.proofs.ReadBack.{reads_back}
use Rattle.dg_script.proofs.laws.reads_back.Goals as goal

pub returns : goal.returns
returns c = reads_back c.args.text.now c.utf8.text
