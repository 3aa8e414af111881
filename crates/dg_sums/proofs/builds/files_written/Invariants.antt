use Rattle.std.proofs.Common.{◌≡◌, map, take}
use Rattle.dg_sums.specs.Builds.{files_written}
use Rattle.dg_sums.proofs.builds.files_written.Given as goal

abbrev pub invariant-loop-value : goal.invariant-loop-value
invariant-loop-value l = l.all ≡ files_written l.names (map (λ d. d.now) (take l.value-index l.values))
