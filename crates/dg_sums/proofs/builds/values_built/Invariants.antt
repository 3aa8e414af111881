use Rattle.std.proofs.Common.{◌≡◌, map, take}
use Rattle.dg_kinds_coll.specs.Defold.{defold_tables}
use Rattle.dg_play.specs.Seen.{line_of}
use Rattle.dg_sums.specs.Builds.{values_built}
use Rattle.dg_sums.proofs.builds.values_built.Given as goal

abbrev pub invariant-loop-line : goal.invariant-loop-line
invariant-loop-line l = map (λ d. d.now) l.all.items ≡ values_built defold_tables (take l.line-index (map line_of l.lines))
