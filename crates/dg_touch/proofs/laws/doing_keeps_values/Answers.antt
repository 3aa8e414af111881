use Rattle.dg_touch.proofs.OutsideDirty.{values-outside}
use Rattle.dg_touch.proofs.TransactRules.{accepted-sound, accepted-rules}
use Rattle.dg_touch.proofs.laws.doing_keeps_values.Goals as goal

pub returns : goal.returns
returns g c graph next ss a accepted =
    let laws = g.met.S.Schema.laws in
    values-outside laws accepted.sound (accepted-sound accepted) a.touched (accepted-rules accepted laws)
