use Rattle.std.proofs.Common.{refl}
use Rattle.dg_base.proofs.Weights.{weight-List, weight-Rec}
use Rattle.dg_laws.proofs.laws.weights_add_up.Goals as goal

pub returns : goal.returns
returns c = record { text = λ bytes. refl; prop = λ p. refl; list = weight-List; record_ = weight-Rec }
