use Rattle.std.proofs.Common.{ap, ◌∙◌, ◌++◌}
use Rattle.std.specs.Arc.{arc_value}
use Rattle.dg_pmap.proofs.join.joined.Goals as goal

pub returns-in_ok-whole-2-clause-pairs : goal.returns-in_ok-whole-2-clause-pairs
returns-in_ok-whole-2-clause-pairs g c =
    c.in_ok-whole-2.ensures.pairs ∙ ap (λ v. (arc_value c.args.low).0 ++ v.0) c.deref-then-higher-lower.ensures
