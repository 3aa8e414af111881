use Rattle.std.proofs.Common.{◌≡◌, [], drop, fold}
use Rattle.dg_base.specs.Names.{interned}
use Rattle.dg_load.proofs.whole.listed_names.Given as goal

abbrev pub invariant-loop-path : goal.invariant-loop-path
invariant-loop-path l =
    fold interned l.listed (drop l.path-index l.paths) ≡ fold interned [] l.paths
