use Rattle.dg_build_laws.proofs.Files.{differ}
use Rattle.dg_build_laws.proofs.laws.build_files_differ.Goals as goal

pub returns : goal.returns
returns c = differ
