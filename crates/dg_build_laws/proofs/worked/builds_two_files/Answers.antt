use Rattle.std.proofs.Common.{ap, ◌∙◌}
use Rattle.dg_build_laws.specs.Worked.{paths_of}
use Rattle.dg_build_laws.proofs.OneObject.{builds, paths}
use Rattle.dg_build_laws.proofs.worked.builds_two_files.Goals as goal

pub returns-clause-paths : goal.returns-clause-paths
returns-clause-paths c = ap paths_of builds ∙ paths
