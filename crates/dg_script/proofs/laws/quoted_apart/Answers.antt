use Rattle.dg_script.proofs.ReadBack.{quoted_apart}
use Rattle.dg_script.proofs.laws.quoted_apart.Goals as goal

pub returns : goal.returns
returns c = quoted_apart c.args.text.now c.args.other.now c.utf8.text c.utf8.other
