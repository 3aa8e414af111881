use Rattle.dg_build_laws.proofs.Files.{have_paths, stay_below}
use Rattle.dg_build_laws.proofs.laws.build_files_stay_below.Goals as goal

pub returns-clause-paths : goal.returns-clause-paths
returns-clause-paths c = have_paths

pub returns-clause-below : goal.returns-clause-below
returns-clause-below c = stay_below
