use Rattle.std.proofs.Common.{◌≡◌, ◌++◌, drop, filter}
use Rattle.dg_sources.specs.Project.{is_read}
use Rattle.dg_sources.proofs.project.read_of.Given as goal

abbrev pub invariant-loop-path : goal.invariant-loop-path
invariant-loop-path l = l.read ++ filter is_read (drop l.path-index l.paths) ≡ filter is_read l.paths
