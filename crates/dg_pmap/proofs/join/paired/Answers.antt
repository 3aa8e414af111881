use Rattle.std.proofs.Common.{ap}
use Rattle.dg_pmap.proofs.Lists.{two_pairs}
use Rattle.dg_pmap.proofs.join.paired.Goals as goal

pub returns-clause-pairs : goal.returns-clause-pairs
returns-clause-pairs g c =
    two_pairs _ _ _ _ _ _ _ _ _ (ap (λ v. v.0) c.in_ok-try_clone.ensures) (ap (λ v. v.0) c.in_ok-try_clone-2.ensures) c.in_ok-low.ensures.pairs c.in_ok-high.ensures.pairs c.in_ok-whole.ensures.pairs
