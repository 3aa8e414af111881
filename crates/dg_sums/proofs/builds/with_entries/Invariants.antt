use Rattle.std.proofs.Common.{◌≡◌, ◌+ℤ◌, fold, take}
use Rattle.dg_sums.specs.Builds.{along_x}
use Rattle.dg_sums.proofs.builds.with_entries.Given as goal

abbrev pub invariant-loop-entry : goal.invariant-loop-entry
invariant-loop-entry l = l.sum ≡ fold (λ sum entry. sum +ℤ along_x entry) l.before (take l.entry-index l.entries)
