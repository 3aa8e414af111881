use Rattle.std.proofs.Common.{ap}
use Rattle.dg_pmap.proofs.Lists.{low_pair}
use Rattle.dg_pmap.proofs.join.turned_low.Goals as goal

pub returns-clause-pairs : goal.returns-clause-pairs
returns-clause-pairs g c =
    low_pair _ _ _ _ _ _ _ (ap (λ v. v.0) c.in_ok-try_clone-2.ensures) (ap (λ v. v.0) c.in_ok-try_clone.ensures) c.in_ok-low.ensures.pairs c.in_ok-whole.ensures.pairs
