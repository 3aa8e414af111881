use Rattle.std.proofs.Common.{◌≡◌, ◌++◌, drop, map}
use Rattle.dg_base.specs.declared.answer.Answer.TheVariants as answer
use Rattle.dg_reads.proofs.values.cycles.Given as goal

abbrev pub invariant-loop-end : goal.invariant-loop-end
invariant-loop-end l = l.all.items ++ map (λ o. answer.Cycle) (drop l._end-index l.named) ≡ map (λ o. answer.Cycle) l.named
