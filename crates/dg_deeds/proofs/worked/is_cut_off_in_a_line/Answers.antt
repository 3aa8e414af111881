use Rattle.std.proofs.Common.{refl, inl, inr}
use Rattle.dg_deeds.proofs.worked.is_cut_off_in_a_line.Goals as goal

pub returns : goal.returns
returns c = inr (inr (inr (inl (refl, (2, refl)))))
