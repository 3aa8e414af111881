use Rattle.dg_touch.proofs.OutsideDirty.{values-outside}
use Rattle.dg_touch.proofs.laws.values_agree_outside_dirty.Goals as goal

pub returns : goal.returns
returns g c before after es s r agree = values-outside g.met.S.Schema.laws s r es agree
