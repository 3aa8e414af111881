use Rattle.std.proofs.Common.{ap}
use Rattle.dg_pmap.proofs.Lists.{high_pair}
use Rattle.dg_pmap.proofs.join.turned_high.Goals as goal

pub returns-clause-pairs : goal.returns-clause-pairs
returns-clause-pairs g c =
    high_pair _ _ _ _ _ _ _ (ap (λ v. v.0) c.in_ok-try_clone-2.ensures) (ap (λ v. v.0) c.in_ok-try_clone.ensures) c.in_ok-high.ensures.pairs c.in_ok-whole.ensures.pairs
