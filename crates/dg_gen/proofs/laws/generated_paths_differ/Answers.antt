use Rattle.dg_gen.proofs.Distinct.{paths_differ}
use Rattle.dg_gen.proofs.laws.generated_paths_differ.Goals as goal

pub returns : goal.returns
returns c = paths_differ
