use Rattle.dg_decimal.proofs.ReadBack.{reading-canonical}
use Rattle.dg_decimal.proofs.laws.reads_back.Goals as goal

pub returns : goal.returns
returns c = reading-canonical c.args.value c.ranges.value
