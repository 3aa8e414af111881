use Rattle.std.proofs.Common.{◌≡◌, map, take}
use Rattle.dg_sums.specs.Builds.{sum_along_x, entries_built}
use Rattle.dg_sums.proofs.builds.sum_built.Given as goal

abbrev pub invariant-loop-value : goal.invariant-loop-value
invariant-loop-value l = l.sum ≡ sum_along_x (entries_built (map (λ d. d.now) (take l.value-index l.values)))
